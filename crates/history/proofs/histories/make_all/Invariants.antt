use Rattle.std.specs.Vec.Iter.{into_iter_items}
use Rattle.history.proofs.Going.{Going}
use Rattle.history.proofs.histories.make_all.Given as goal

abbrev pub invariant-loop-request : goal.invariant-loop-request
invariant-loop-request g l =
    (goal.iterator-loop-request g).can_next l.request-iterator ×
    (goal.iterator-loop-request g).is_finite l.request-iterator ×
    Going g.S.TextStore.text g.S.TextStore.room l.initial.sheet (into_iter_items l.initial.request-iterator) l.sheet l.answers l.yielded (into_iter_items l.request-iterator)
