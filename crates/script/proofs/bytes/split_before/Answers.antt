use Rattle.std.proofs.Common.{◌≡◌, ◌∙◌, eqb, length, unwrap_or, ap, rules}
use borrow.Author.Tests.{tests}
use Rattle.std.specs.List.{position}
use Rattle.std.proofs.lemmas.Iterator.{YieldsList-from_slice}
use Rattle.std.proofs.lemmas.Iterator.Search.{position_from_yields_List}
use Rattle.script.proofs.Fronts.{front_first, onward_first}
use Rattle.script.proofs.bytes.split_before.Goals as goal

found : (c : goal.After-split_at) → c.position.result ≡ position (λ b. eqb b c.args.end) c.args.bytes.now
found c = position_from_yields_List (λ b. eqb b c.args.end) _ _ _ c.position.ensures.ran (YieldsList-from_slice c.args.bytes.now (cc)) (λ x b q k. search (rules, tests))

pub returns-clause-before : goal.returns-clause-before
returns-clause-before c = c.split_at.ensures.front ∙ front_first c.args.end c.args.bytes.now _ (c.unwrap_or-n.ensures ∙ ap (λ o. unwrap_or o (length c.args.bytes.now)) (found c))

pub returns-clause-behind : goal.returns-clause-behind
returns-clause-behind c = c.split_at.ensures.back ∙ onward_first c.args.end c.args.bytes.now _ (c.unwrap_or-n.ensures ∙ ap (λ o. unwrap_or o (length c.args.bytes.now)) (found c))
