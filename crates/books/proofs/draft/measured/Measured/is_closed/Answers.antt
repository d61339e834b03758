use Rattle.std.proofs.Common.{◌==◌, get_or, sym, ◌∙◌, rules, arith}
use borrow.Author.Tests.{tests}
use Rattle.std.proofs.lemmas.List.{get_or_default}
use Rattle.std.proofs.lemmas.Iterator.{YieldsList-from_slice}
use Rattle.std.proofs.lemmas.Iterator.Adapters.{serves_from_places}
use Rattle.std.proofs.lemmas.Iterator.Search.{all_from_yields_List}
use Rattle.books.specs.Plans.{plan}
use Rattle.books.proofs.Questions.{none_from_test}
use Rattle.books.proofs.Facts.{lengths_known}
use Rattle.books.proofs.Rows.{class_low, row_place, row, row_long, no_step-row, no_step-none, no_step-past}
use Rattle.books.proofs.draft.measured.Measured.is_closed.Goals as goal

pub returns-then-state-self : goal.returns-then-state-self
returns-then-state-self c =
    let p = plan c.args.self.now.draft in
    let known = lengths_known p (none_from_test _ c.args.self.now.long) in
    sym (no_step-past p.tables p.states c.args.state known.steps c.if-state-self.true p.tables.classes)

pub all-requires-else-all-clause-callable : goal.all-requires-else-all-clause-callable
all-requires-else-all-clause-callable c =
    let p = plan c.args.self.now.draft in
    let within = row_place p (none_from_test _ c.args.self.now.long) c.args.state c.if-state-self.false in
    serves_from_places (YieldsList-from_slice _ c.iter-else-all.ensures.rest) (λ x q k. search rules) (λ x k in-codes is.
    λ l a b d e f g h. omega (arith, is, get_or_default p.tables.classes k x.now 0 in-codes, class_low p (none_from_test _ c.requires) k in-codes, row_long p.tables c.args.state within))

pub returns-then-all : goal.returns-then-all
returns-then-all c =
    let p = plan c.args.self.now.draft in
    let within = row_place p (none_from_test _ c.args.self.now.long) c.args.state c.if-state-self.false in
    let none = all_from_yields_List (λ n. n == 255) _ _ _ c.all.ensures.ran (YieldsList-from_slice _ c.iter.ensures.rest) (λ x b q k. search (rules, tests)) in
    c.if-all.true ∙ sym (no_step-none p.tables c.args.state within (sym none ∙ c.if-all.true) p.tables.classes (class_low p (none_from_test _ c.requires)))

pub returns-else-all : goal.returns-else-all
returns-else-all c =
    let p = plan c.args.self.now.draft in
    let within = row_place p (none_from_test _ c.args.self.now.long) c.args.state c.if-state-self.false in
    all_from_yields_List (λ k. get_or (row p.tables c.args.state within) k 0 == 255) _ _ _ c.all-else-all.ensures.ran (YieldsList-from_slice _ c.iter-else-all.ensures.rest) (λ x b q k. search (rules, tests))
    ∙ no_step-row p.tables c.args.state within p.tables.classes (class_low p (none_from_test _ c.requires))
