use Rattle.std.proofs.Common.{◌≡◌, ◌≤◌}
use Rattle.scanner.proofs.Alike.{Going}
use Rattle.scanner.proofs.lookbacks.set_lookbacks.Given as goal

abbrev pub invariant-loop-number : goal.invariant-loop-number
invariant-loop-number g l =
    (l.spot.number ≡ l.number) × (l.reader.number ≤ l.number) ×
    Going l.fn.entries l.entries l.fn.first.number l.number l.spot.start l.reader.number l.reader.start
