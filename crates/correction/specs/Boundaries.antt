-- What the boundaries between entries say of a list.
use Rattle.std.specs.Prelude.{◌≡◌, ℕ, ◌<◌, ◌≤◌, List, length}
use Rattle.reading.specs.Reading.{Entry, start, reach}
use Rattle.reading.specs.Laws.{mode_before}
use Rattle.scanner.specs.Spots as spots
use Rattle.correction.specs.declared.boundaries.Boundary.{Boundary}

-- the boundary's spot and mode are those of its entry
abbrev pub Stands : {L B : Type 0} → List Entry → Boundary L B → Type 0
Stands es r = spots.Stands es r.at × (r.mode ≡ mode_before es r.at.number)

-- the entries from one number on and before another start before a place and reach no further than `reach`, which is no less than it was;
-- the next one starts at the place or behind it
pub record Passes (es : List Entry) (here there place was reached : ℕ) : Type 0 where
  pub on : here ≤ there
  pub before : (i : ℕ) → here ≤ i → i < there → start es i < place
  pub reading : (i : ℕ) → here ≤ i → i < there → reach es i ≤ reached
  pub further : was ≤ reached
  pub to : there < length es → place ≤ start es there
