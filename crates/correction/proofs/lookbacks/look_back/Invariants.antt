use Rattle.std.proofs.Common.{◌≡◌, ◌+◌, ◌-◌}
use Rattle.reading.specs.Reading.{start}
use Rattle.scanner.specs.Spots.{Stands}
use Rattle.correction.proofs.lookbacks.look_back.Given as goal

abbrev pub invariant-loop-entry : goal.invariant-loop-entry
invariant-loop-entry g l =
    Stands l.fn.entries l.fn.from.at → l.start ≡ l.fn.from.at.start - (start l.fn.entries (l.first + l.entry-index) - start l.fn.entries l.first)
