-- When a store refuses a replace, and how that refusal is told.
use Rattle.std.specs.Prelude.{ℕ, ◌+◌, ◌-◌, Bool, cond, Some, None, Option, nat_le}
use Rattle.counts.specs.declared.Refusal.{Refusal}
use Rattle.text.specs.declared.fault.StoreFault.{StoreFault}
use Rattle.text.specs.declared.fault.StoreFault.TheVariants.{PlaceBeyond, CutBeyond, NoRoom}

-- a question: a yes goes on to the next, a no gives its fault
abbrev pub asked : Bool → StoreFault → Option StoreFault → Option StoreFault
asked answer fault next = cond answer next (Some fault)

-- The three questions to a replace at place a that cuts c bytes and inserts i, where the text has n bytes and the store has room
-- for r. The first no decides.
abbrev pub refused : ℕ → ℕ → ℕ → ℕ → ℕ → Option StoreFault
refused n r a c i =
    asked (nat_le a n) (PlaceBeyond a)
    (asked (nat_le c (n - a)) (CutBeyond c)
    (asked (nat_le (n - c + i) r) (NoRoom i) None))

-- each refusal's layer, number and detail; the store is layer 1
abbrev pub told : StoreFault → Refusal
told (PlaceBeyond a) = record { layer = 1; number = 11; detail = a }
told (CutBeyond c) = record { layer = 1; number = 12; detail = c }
told (NoRoom i) = record { layer = 1; number = 13; detail = i }
