use Rattle.std.proofs.Common.{◌≡◌, ℕ, ◌/◌, not, List, length, get_or, ap, ◌∙◌, rules, arith}
use borrow.Author.Tests.{tests}
use Rattle.std.specs.List.{position}
use Rattle.std.specs.Simd.{first_chunks}
use Rattle.std.proofs.lemmas.Iterator.{YieldsList-from_slice}
use Rattle.std.proofs.lemmas.Iterator.Search.{position_from_yields_List}
use Rattle.books.specs.Check.{kind_and_mode_right}
use Rattle.books.specs.Plans.{plan}
use Rattle.books.proofs.Questions.{none_from_test}
use Rattle.books.proofs.Facts.{lengths_known}
use Rattle.books.proofs.Pairs.{rules_in_pairs}
use Rattle.books.proofs.draft.measured.Measured.wrong_rule.Goals as goal

pub returns : goal.returns
returns c =
    let p = plan c.args.self.now.draft in
    let known = lengths_known p (none_from_test _ c.args.self.now.long) in
    let half : length p.tables.rules / 2 ≡ p.rules = omega (arith, known.rules) in
    let wrong : List ℕ → _ = λ (pair : List ℕ). not (kind_and_mode_right p (get_or pair 0 0) (get_or pair 1 0)) in
    position_from_yields_List wrong _ _ _ c.position.ensures.ran (YieldsList-from_slice _ c.iter.ensures.rest) (λ x b q k. search (rules, tests))
    ∙ ap (position wrong) (c.as_chunks.ensures.front ∙ ap (λ (n : ℕ). first_chunks 2 n p.tables.rules) half)
    ∙ rules_in_pairs p
