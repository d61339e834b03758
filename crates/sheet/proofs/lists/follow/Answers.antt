use Rattle.std.proofs.Common.{◌≡◌, ℕ, length, take, Some, None, Option, sym, ◌∙◌, subst, subst₂}
use Rattle.std.specs.Option.{MatchOption}
use Rattle.std.proofs.lemmas.List.{with_items_is}
use Rattle.books.specs.Meaning.{tables}
use Rattle.reading.specs.Report.{Report}
use Rattle.correction.specs.declared.edits.Reread.{Reread}
use Rattle.correction.specs.Promise.{Brought}
use Rattle.correction.specs.Walks.{Met}
use Rattle.sheet.proofs.lists.follow.Goals as goal

-- what was read again is taken over
taken : {B : Type 0} (N : Type 0) (P : ℕ → Report → Type 0) (answer : Option (Reread B)) (old new : ℕ) (r : Report) →
    MatchOption answer (new ≡ old) (λ a. new ≡ a.count) → MatchOption answer N (λ a. r ≡ a.report) → MatchOption answer ⊥ (λ a. P a.count a.report) → P new r
taken N P None old new r n e h = absurd h
taken N P (Some a) old new r n e h = subst₂ P (sym n) (sym e) h

pub returns-clause-brought : goal.returns-clause-brought
returns-clause-brought g c xs m =
    let list = c.args.list.now in
    let t = tables list.book in
    let e = c.args.edit in
    let ys = g.S.Symbols.codes c.args.symbols.now in
    let kept = c.reread-answer.new.memory in
    let items = with_items_is list.memory kept (c.reread-answer.auto.memory ∙ c.as_mut_slice.ensures.len) in
    let met : Met t e xs ys (take list.count c.as_mut_slice.result.now) (length c.as_mut_slice.result.now) =
    subst₂ (λ es n. Met t e xs ys (take list.count es) n) (sym c.as_mut_slice.ensures.value) (sym c.as_mut_slice.ensures.len) m in
    subst (λ es. Brought t e xs ys c.take_over.new.count (take c.take_over.new.count es) c.take_over.result) (sym items)
    (taken _ (λ n r. Brought t e xs ys n (take n kept) r) c.reread-answer.result list.count c.take_over.new.count c.take_over.result c.take_over.ensures.count c.take_over.ensures.report (c.reread-answer.ensures.rereads xs met))
