use Rattle.std.proofs.Common.{◌≡◌, ◌++◌, take, drop}
use Rattle.questions.proofs.copies.read_into.Given as goal

abbrev pub invariant-loop-offset : goal.invariant-loop-offset
invariant-loop-offset g l = l.part ≡ take l.offset (drop l.start (g.S.TextStore.text l.store)) ++ drop l.offset l.initial.part
