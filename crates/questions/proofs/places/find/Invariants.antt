use Rattle.std.proofs.Common.{◌≡◌, ◌+◌}
use Rattle.reading.specs.Reading.{start}
use Rattle.questions.proofs.places.find.Given as goal

abbrev pub invariant-loop-number : goal.invariant-loop-number
invariant-loop-number l = l.fn.place ≡ start l.tokens l.number + l.offset
