use Rattle.std.proofs.Common.{◌≡◌, length, drop, sym, ap, ◌∙◌, ap₂, ◌∷◌, arith}
use Rattle.std.proofs.lemmas.Grind.{common_steps}
use Rattle.std.proofs.lemmas.Bool.{eqb-false}
use Rattle.script.specs.Scripts.{lines_of}
use Rattle.script.proofs.Lines.{lines_first, shorter}
use Rattle.script.proofs.bytes.LinesIterator.next.Goals as goal

left : (c : goal.After-self-1) → c.unwrap_or-self.result.now ≡ drop 1 c.split_before.result.1.now
left c = grind (arith, common_steps)

some : (c : goal.After-self-1) → length c.args.self.now.rest.now ≡ 0 → ⊥
some c = eqb-false (length c.args.self.now.rest.now) 0 (sym c.if-is_empty.ensures)

pub returns-clause-steps : goal.returns-clause-steps
returns-clause-steps c =
    lines_first c.args.self.now.rest.now (some c)
    ∙ ap₂ (λ l xs. l ∷ lines_of xs) (sym c.split_before.ensures.before) (sym (left c ∙ ap (drop 1) c.split_before.ensures.behind))

pub returns-clause-goes : goal.returns-clause-goes
returns-clause-goes c =
    let fewer = shorter c.args.self.now.rest.now (some c) in
    let same = ap length (left c ∙ ap (drop 1) c.split_before.ensures.behind) in
    omega (arith, fewer, same)
