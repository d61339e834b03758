-- What the pointer of the lookbacks keeps.
use Rattle.std.specs.Prelude.{◌≡◌, ℕ, ◌^◌, ◌<◌, ◌≤◌, ◌⊎◌, List}
use Rattle.reading.specs.Reading.{Entry, start, reach}
use Rattle.scanner.specs.declared.lookbacks.Spot.{Spot}

-- the spot's start is where its entry starts
abbrev pub Stands : {L B : Type 0} → List Entry → Spot L B → Type 0
Stands es s = s.start ≡ start es s.number

-- no entry before number p reads the start of entry j, or a later place
abbrev pub Passed : List Entry → ℕ → ℕ → Type 0
Passed es p j = (i : ℕ) → i < p → reach es i ≤ start es j

-- a pointer at entry p: none before it reads the start of entry j, and it reads that itself, or is j
pub record ReadsStart (es : List Entry) (p j : ℕ) : Type 0 where
  pub to : p ≤ j
  pub passed : Passed es p j
  pub reads : (p ≡ j) ⊎ (start es j < reach es p)

-- where each entry's reading ends, and where the last entry ends, is a number of 64 bits
abbrev pub Fit : List Entry → Type 0
Fit es = (i : ℕ) → reach es i < 2 ^ 64
