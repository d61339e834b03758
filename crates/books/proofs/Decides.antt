-- The first question that gets a no decides the fault.
use Rattle.std.proofs.Common.{◌≡◌, ℕ, List, [], ◌∷◌, IsErrAnd, Ok, Err, Some, None, Option, Result, refl, sym, ap, ◌∙◌, MatchOption, MatchResult}
use Rattle.std.specs.Borrow.{Bor}
use Rattle.std.specs.Option.{option_map}
use Rattle.std.proofs.lemmas.Result.{err_from_is_err_and}
use Rattle.books.specs.declared.draft.Draft.{Draft}
use Rattle.books.specs.declared.draft.measured.Measured.{Measured}
use Rattle.books.specs.declared.fault.BookFault.{BookFault}
use Rattle.books.specs.Check.{Plan, first, first_of, count_fault, length_fault, class_fault, step_fault, accept_fault, rule_fault, start_fault, fault}
use Rattle.books.specs.Plans.{plan}
use Rattle.books.proofs.Questions.{none_from_test}

-- what the exit of a `?` answers
pub exits : {T E : Type 0} (o : Option E) (P : T → Type 0) (r : Result T E) (f : E) → IsErrAnd r (λ g. g ≡ f) → o ≡ Some f → MatchResult r P (λ g. o ≡ Some g)
exits o P r f by e = let at = err_from_is_err_and r by in rw (at.1, at.2) e

module _ (make : ℕ → BookFault) (x no : Option ℕ) (o rest : Option BookFault) where
  -- The fault is that of a question or else one of the rest. At the exit of a `?` on the question's answer it is the question's,
  pub question_exits : {T : Type 0} (P : T → Type 0) (r : Result T BookFault) (f : BookFault) → o ≡ first (option_map make x) rest → no ≡ x → MatchOption no (◌≡◌ {A = Result (Unit {0}) BookFault} (Err f) (Ok tt)) (λ place. IsErrAnd {T = Unit {0}} (Err f) (λ g. g ≡ make place)) → IsErrAnd r (λ g. g ≡ f) → MatchResult r P (λ g. o ≡ Some g)
  question_exits P r f e is said by = exit no is said
    where
      exit : (no : Option ℕ) → no ≡ x → MatchOption no (◌≡◌ {A = Result (Unit {0}) BookFault} (Err f) (Ok tt)) (λ place. IsErrAnd {T = Unit {0}} (Err f) (λ g. g ≡ make place)) → MatchResult r P (λ g. o ≡ Some g)
      exit None is said = absurd (cc)
      exit (Some place) is said =
          let named : option_map make x ≡ Some f = ap (option_map make) (sym is) ∙ ap Some (sym said) in
          exits o P r f by (e ∙ ap (λ (z : Option BookFault). first z rest) named)

  -- and behind it the rest's
  pub passes : o ≡ first (option_map make x) rest → no ≡ x → MatchOption no (◌≡◌ {A = Result (Unit {0}) BookFault} (Ok tt) (Ok tt)) (λ place. IsErrAnd {T = Unit {0}} {E = BookFault} (Ok tt) (λ g. g ≡ make place)) → o ≡ rest
  passes e is said = pass no is said
    where
      pass : (no : Option ℕ) → no ≡ x → MatchOption no (◌≡◌ {A = Result (Unit {0}) BookFault} (Ok tt) (Ok tt)) (λ place. IsErrAnd {T = Unit {0}} {E = BookFault} (Ok tt) (λ g. g ≡ make place)) → o ≡ rest
      pass None is said = e ∙ ap (λ (z : Option ℕ). first (option_map make z) rest) (sym is)
      pass (Some place) is said = absurd said

-- the fault of the questions that are left for a measured draft
abbrev pub left : Plan → Option BookFault
left p =
    first_of (class_fault p ∷ step_fault p ∷ accept_fault p ∷ rule_fault p ∷ start_fault p ∷ [])

pub counts_first : (p : Plan) → fault p ≡ first (count_fault p) (first (length_fault p) (left p))
unfolding fault
counts_first p = refl

pub classes_first : (d : Draft (Bor (List ℕ))) (m : Measured) → m.draft ≡ d → fault (plan d) ≡ left (plan m.draft)
classes_first d m same =
    let p = plan m.draft in
    ap (λ (d : Draft (Bor (List ℕ))). fault (plan d)) (sym same) ∙ counts_first p
    ∙ ap (λ (z : Option BookFault). first z (first (length_fault p) (left p))) (none_from_test _ m.counted)
    ∙ ap (λ (z : Option BookFault). first z (left p)) (none_from_test _ m.long)
