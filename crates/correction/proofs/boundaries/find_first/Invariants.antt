use Rattle.std.proofs.Common.{◌≡◌}
use Rattle.reading.proofs.First.{ShortOf}
use Rattle.scanner.specs.Spots.{Fit}
use Rattle.correction.specs.Boundaries.{Stands}
use Rattle.correction.proofs.boundaries.find_first.Given as goal

abbrev pub invariant-loop-entry : goal.invariant-loop-entry
invariant-loop-entry g l =
    (l.at.number ≡ l.entry-index) × (Fit l.entries → Stands l.entries (record { at = l.at; mode = l.mode }) × ShortOf l.entries l.at.number l.place)
