use Rattle.std.proofs.Math.Seq.{take-add}
use Rattle.correction.proofs.splices.splice.Goals as goal

pub returns : goal.returns
returns g c written = cc (take-add c.args.added c.args.kept c.write_run.new.part, c.write_run.ensures.written written)
