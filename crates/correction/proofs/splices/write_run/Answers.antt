use Rattle.std.proofs.Common.{ap, ◌∙◌, arith}
use Rattle.correction.proofs.Runs.{running_more}
use Rattle.correction.proofs.splices.write_run.Goals as goal

pub loop-slot-preserved : goal.loop-slot-preserved
loop-slot-preserved g c =
    running_more _ _ _ c.loop-slot.slot-items c.loop-slot.slot-index c.loop-slot.place c.loop-slot.mode c.of.result c.loop-slot.invariant (omega arith) c.scan-token.result c.get-place.result _
    c.of.ensures c.scan-token.ensures.value (c.get-place.ensures ∙ ap (λ e. e.length) c.token.view_is) (ap (λ e. e.mode) c.token.view_is)
