use Rattle.std.proofs.Common.{◌≡◌, ◌+◌}
use Rattle.scanner.specs.Spots.{Fit}
use Rattle.correction.specs.Boundaries.{Stands}
use Rattle.correction.proofs.Sums.{Passing}
use Rattle.correction.proofs.boundaries.pass.Given as goal

abbrev pub invariant-loop-entry : goal.invariant-loop-entry
invariant-loop-entry g l =
    (l.at.number ≡ l.fn.from.to.at.number + l.entry-index) ×
    (Fit l.entries → Stands l.entries l.fn.from.to → Stands l.entries (record { at = l.at; mode = l.mode }) × Passing l.entries l.fn.from.to.at.number l.place l.fn.from.reach l.at.number l.reach)
