use Rattle.std.proofs.Common.{rules, ◌∙◌}
use Rattle.std.proofs.lemmas.Bool.{ne_eqb}
use Rattle.std.proofs.lemmas.Iterator.{YieldsList-from_slice, YieldsList-from_map}
use Rattle.scanner.specs.Numbers.{kinds_of}
use Rattle.questions.proofs.Compared.{compared, other_lengths}
use Rattle.questions.proofs.kinds.same_kinds.Goals as goal

pub returns-then-a-b : goal.returns-then-a-b
returns-then-a-b c =
    compared _ _ (kinds_of c.args.a.now) (kinds_of c.args.b.now) _ c.eq.ensures.ran
    (YieldsList-from_map _ (λ e. e.kind) (YieldsList-from_slice c.args.a.now (cc)) c.map.ensures.closure (λ x r q k. search rules))
    (YieldsList-from_map _ (λ e. e.kind) (YieldsList-from_slice c.args.b.now (cc)) c.map-then-a-b.ensures.closure (λ x r q k. search rules))

pub returns-else-a-b : goal.returns-else-a-b
returns-else-a-b c = ne_eqb _ _ c.if-a-b.false ∙ other_lengths c.args.a.now c.args.b.now (λ e. c.if-a-b.false e)
