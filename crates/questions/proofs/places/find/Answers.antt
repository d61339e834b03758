use Rattle.std.proofs.Common.{◌≡◌, length, ap, ◌∙◌, arith}
use Rattle.std.proofs.lemmas.List.{get_or_read}
use Rattle.std.proofs.lemmas.Grind.{common_steps}
use Rattle.reading.specs.Reading.{none}
use Rattle.reading.proofs.Lists.{start_end}
use Rattle.questions.proofs.Within.{in_token, past}
use Rattle.questions.proofs.places.find.Goals as goal

pub returns-then-offset-length : goal.returns-then-offset-length
returns-then-offset-length c =
    let here = c.token.view_is ∙ get_or_read c.args.tokens.now c.loop-number.number c.index-tokens-number.result c.loop-number-test.true c.index-tokens-number.is none in
    cc (in_token c.args.tokens.now c.args.place c.loop-number.number c.loop-number.offset (omega arith) c.loop-number.invariant (omega (arith, ap (λ e. e.length) here)))

pub returns-then-not-is_empty : goal.returns-then-not-is_empty
returns-then-not-is_empty c =
    let all : c.loop-number.number ≡ length c.args.tokens.now = omega arith in
    grind (arith, common_steps, start_end, past)

pub returns-else-offset-eq0 : goal.returns-else-offset-eq0
returns-else-offset-eq0 c =
    let all : c.loop-number.number ≡ length c.args.tokens.now = omega arith in
    grind (arith, common_steps, start_end, past)
