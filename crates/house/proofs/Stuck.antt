-- A scan is stuck exactly where there is no step: a closed state needs no word of its own.
use Rattle.std.proofs.Common.{◌≡◌, ℕ, zero, suc, ◌+◌, ◌*◌, ◌<◌, ◌≤◌, Bool, true, false, cond, ◌||◌, eqb, List, [], ◌∷◌, length, get_or, sym, refl, ap, ◌∙◌, ⊎_elim, le_of_suc-le-suc, not-suc-le-zero}
use Rattle.std.proofs.lemmas.Bool.{and_parts, cases_lt}
use Rattle.std.proofs.lemmas.List.{get_or_past}
use Rattle.books.specs.Tables.{Tables, class, step, no_step, closed}
use Rattle.reading.specs.Reading.{stuck}
use Rattle.reading.specs.Laws.{after}

-- the step table at state s and class k
abbrev entry_at : Tables → ℕ → ℕ → ℕ
entry_at t s k = get_or t.steps (s * t.width + k) 255

none_at : (t : Tables) (s : ℕ) (ks : List ℕ) → no_step t s ks ≡ true → (i : ℕ) → i < length ks → eqb (entry_at t s (get_or ks i 0)) 255 ≡ true
none_at t s [] e i h = absurd (not-suc-le-zero h)
none_at t s (k ∷ ks) e zero h = (and_parts (eqb (entry_at t s k) 255) (no_step t s ks) e).0
none_at t s (k ∷ ks) e (suc i) h = none_at t s ks (and_parts (eqb (entry_at t s k) 255) (no_step t s ks) e).1 i (le_of_suc-le-suc h)

-- a book in which code 0 has class 0, as the codes past its table have
pub stuck_is : (t : Tables) → 1 ≤ length t.classes → class t 0 ≡ 0 → (s x : ℕ) → stuck t s x ≡ eqb (step t s x) 255
stuck_is t some zeroth s x = by_cases (closed t s) refl
  where
    there : closed t s ≡ true → eqb (step t s x) 255 ≡ true
    there e =
        ⊎_elim
        (λ h. none_at t s t.classes e x h)
        (λ h. ap (λ k. eqb (entry_at t s k) 255) (get_or_past t.classes x 0 h ∙ sym zeroth) ∙ none_at t s t.classes e 0 some)
        (cases_lt x (length t.classes))

    by_cases : (b : Bool) → closed t s ≡ b → (b || eqb (step t s x) 255) ≡ eqb (step t s x) 255
    by_cases true e = sym (there e)
    by_cases false e = refl

-- one step more: 255 where there is none
pub after_more : (t : Tables) → 1 ≤ length t.classes → class t 0 ≡ 0 → (s x : ℕ) (w : List ℕ) → after t s (x ∷ w) ≡ cond (eqb (step t s x) 255) 255 (after t (step t s x) w)
after_more t some zeroth s x w = ap (λ b. cond b 255 (after t (step t s x) w)) (stuck_is t some zeroth s x)
