use Rattle.std.proofs.Common.{◌≡◌, ℕ, ◌+◌, ◌<◌, ◌≤◌}
use Rattle.reading.specs.Reading.{reach}
use Rattle.scanner.specs.Spots.{Fit, Stands}
use Rattle.scanner.proofs.lookbacks.advance.Given as goal

abbrev pub invariant-loop-entry : goal.invariant-loop-entry
invariant-loop-entry g l =
    (l.spot.number ≡ l.fn.reader.number + l.entry-index) ×
    (Fit l.entries → Stands l.entries l.fn.reader → ((i : ℕ) → i < l.fn.reader.number → reach l.entries i ≤ l.place) →
    Stands l.entries l.spot × ((i : ℕ) → i < l.spot.number → reach l.entries i ≤ l.place))
