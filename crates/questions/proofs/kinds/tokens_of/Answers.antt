use Rattle.std.proofs.Common.{rules, ◌≡◌, ◌<◌, length, arith}
use Rattle.reading.specs.Reading.{at}
use Rattle.questions.proofs.Compared.{part_kinds}
use Rattle.questions.proofs.kinds.tokens_of.Goals as goal

pub returns : goal.returns
returns c =
    let within : c.args.number < length c.args.lines.now = search rules in
    let here : (at c.args.lines.now c.args.number).length ≡ c.get-length.result = search rules in
    (within, part_kinds c.args.tokens.now c.args.lines.now c.args.number c.start_of.result c.min-start.result c.min.result (omega arith) c.start_of.ensures (omega arith) (omega arith))
