use Rattle.std.proofs.Common.{◌≡◌, ℕ, Decides, nat_eq, sym, ap, ap₂, ◌∙◌, rules}
use Rattle.std.specs.Ordering.{on, eq_of_both}
use Rattle.std.proofs.lemmas.Bool.Decides.{Decides-eqb, Decides-and, Decides-like}
use Rattle.std.proofs.lemmas.Slice.Eq.{slice_eq-Decides}
use Rattle.conformance.specs.Spans.{spans}
use Rattle.conformance.specs.declared.vectors.Span.{Span}
use Rattle.conformance.proofs.reader.agrees.Goals as goal

-- two spans are the same where kind and length are
same_span : (a b : Span) → Decides (eq_of_both (on (λ (v : Span). v.kind) nat_eq) (on (λ (v : Span). v.length) nat_eq) a b) (a ≡ b)
same_span a b =
    let make : ℕ → ℕ → Span = λ k l. record { kind = k; length = l } in
    Decides-like _ (λ e. ap₂ make e.0 e.1) (λ e. (ap (λ (v : Span). v.kind) e, ap (λ (v : Span). v.length) e))
    (Decides-and _ _ (Decides-eqb a.kind b.kind) (Decides-eqb a.length b.length))

pub returns : goal.returns
returns c =
    let found =
    c.as_slice-found.ensures.value
    ∙ c.in_ok-found.ensures
    ∙ ap spans c.as_slice.ensures.value
    ∙ ap spans c.in_ok-tokens.ensures in
    rw (sym found) (search (rules, slice_eq-Decides same_span))
