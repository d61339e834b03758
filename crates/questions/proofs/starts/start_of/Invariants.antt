use Rattle.std.proofs.Common.{◌≡◌, ◌-◌, ◌^◌, min}
use Rattle.reading.specs.Reading.{start}
use Rattle.questions.proofs.starts.start_of.Given as goal

abbrev pub invariant-loop-entry : goal.invariant-loop-entry
invariant-loop-entry g l = l.sum ≡ min (start l.entries l.entry-index) (2 ^ 64 - 1)
