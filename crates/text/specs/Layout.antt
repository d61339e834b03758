-- Where a store keeps its text in its memory. The other bytes of the memory are free: nothing says what they hold.
use Rattle.std.specs.Prelude.{ℕ, ◌+◌, List, ◌++◌, take, drop, vec_items}
use Rattle.text.specs.declared.flat.FlatStore.{FlatStore}
use Rattle.text.specs.declared.gap.GapStore.{GapStore}

-- the n bytes at the front of a memory
abbrev pub front : ℕ → List ℕ → List ℕ
front n memory = take n memory

-- a memory without its gap, which starts at gap and has free bytes
abbrev pub around : ℕ → ℕ → List ℕ → List ℕ
around gap free memory = take gap memory ++ drop (gap + free) memory

abbrev pub flat_text : FlatStore → List ℕ
flat_text s = front s.len (vec_items s.memory)

abbrev pub gap_text : GapStore → List ℕ
gap_text s = around s.gap s.free (vec_items s.memory)
