-- The states on the path of a scan.
use Rattle.std.proofs.Common.{◌≡◌, ℕ, zero, suc, ◌+◌, ◌*◌, ◌<◌, ◌≤◌, true, false, eqb, ltb, List, [], ◌∷◌, length, take, sym, refl, ap, ◌∙◌, subst, inl, inr, le_of_suc-le-suc, arith}
use lib.Arith.{digits_lt}
use Rattle.std.proofs.lemmas.List.{get_or_default, get_or_past}
use Rattle.std.proofs.lemmas.Bool.{cases_Bool, cases_lt, or_cases, or_parts, cond-true, cond-false, ltb-true, both_ways}
use Rattle.books.specs.Tables.{Tables, class, step, closed}
use Rattle.books.specs.Sound.{Sound}
use Rattle.reading.specs.Reading.{path, stuck, state}
use Rattle.reading.specs.Laws.{after}
use Rattle.reading.proofs.Local.{path_stuck, path_step}

-- a path has no more steps than the text has symbols
pub path_length : (t : Tables) (s : ℕ) (xs : List ℕ) → length (path t s xs) ≤ length xs
path_length t s [] = omega arith
path_length t s (x ∷ xs) =
    elim (cases_Bool (stuck t s x)) [
      | inl e ↦ omega (arith, ap length (path_stuck t s x xs e))
      | inr e ↦ omega (arith, ap length (path_step t s x xs e), path_length t (step t s x) xs)
    ]

-- the state after one step and then n more
pub state_step : (s p : ℕ) (ps : List ℕ) (n : ℕ) → n ≤ length ps → state s (p ∷ ps) (suc n) ≡ state p ps n
state_step s p ps n h = get_or_default (p ∷ ps) n s p (omega arith)

-- no step is taken where the path has ended
stuck_ends : (t : Tables) (s x n : ℕ) (xs : List ℕ) → stuck t s x ≡ true → n < length (path t s (x ∷ xs)) → ⊥
stuck_ends t s x n xs e h = omega (arith, ap length (path_stuck t s x xs e))

-- a path that begins with a step
one_less : (t : Tables) (s x n : ℕ) (xs : List ℕ) → stuck t s x ≡ false → suc n ≤ length (path t s (x ∷ xs)) → n ≤ length (path t (step t s x) xs)
one_less t s x n xs e h = omega (arith, ap length (path_step t s x xs e))

state_on : (t : Tables) (s x n : ℕ) (xs : List ℕ) → stuck t s x ≡ false → suc n ≤ length (path t s (x ∷ xs)) →
    state s (path t s (x ∷ xs)) (suc n) ≡ state (step t s x) (path t (step t s x) xs) n
state_on t s x n xs e h = ap (λ ps. state s ps (suc n)) (path_step t s x xs e) ∙ state_step s (step t s x) (path t (step t s x) xs) n (one_less t s x n xs e h)

-- the automaton is on the path after each symbol that has a step
pub after_take : (t : Tables) (s : ℕ) (xs : List ℕ) (n : ℕ) → n ≤ length (path t s xs) → after t s (take n xs) ≡ state s (path t s xs) n
after_take t s [] zero h = refl
after_take t s [] (suc n) h = absurd (omega arith)
after_take t s (x ∷ xs) zero h = refl
after_take t s (x ∷ xs) (suc n) h =
    elim (cases_Bool (stuck t s x)) [
      | inl e ↦ absurd (stuck_ends t s x n xs e h)
      | inr e ↦ cond-false (stuck t s x) 255 _ e ∙ after_take t (step t s x) xs n (one_less t s x n xs e h) ∙ sym (state_on t s x n xs e h)
    ]

-- and in no state where the path has ended
pub after_past : (t : Tables) (s : ℕ) (xs : List ℕ) (n : ℕ) → length (path t s xs) < n → n ≤ length xs → after t s (take n xs) ≡ 255
after_past t s [] n h l = absurd (omega arith)
after_past t s (x ∷ xs) zero h l = absurd (omega arith)
after_past t s (x ∷ xs) (suc n) h l =
    elim (cases_Bool (stuck t s x)) [
      | inl e ↦ cond-true (stuck t s x) 255 _ e
      | inr e ↦ cond-false (stuck t s x) 255 _ e ∙ after_past t (step t s x) xs n (omega (arith, ap length (path_step t s x xs e))) (le_of_suc-le-suc l)
    ]

-- no step of a path leads to 255
pub path_some : (t : Tables) (s : ℕ) (xs : List ℕ) (n : ℕ) → n < length (path t s xs) → eqb (state s (path t s xs) (suc n)) 255 ≡ false
path_some t s [] n h = absurd (omega arith)
path_some t s (x ∷ xs) zero h =
    elim (cases_Bool (stuck t s x)) [
      | inl e ↦ absurd (stuck_ends t s x 0 xs e h)
      | inr e ↦ ap (λ z. eqb z 255) (state_on t s x 0 xs e h) ∙ (or_parts (closed t s) (eqb (step t s x) 255) e).1
    ]
path_some t s (x ∷ xs) (suc n) h =
    elim (cases_Bool (stuck t s x)) [
      | inl e ↦ absurd (stuck_ends t s x (suc n) xs e h)
      | inr e ↦ ap (λ z. eqb z 255) (state_on t s x (suc n) xs e h) ∙ path_some t (step t s x) xs n (one_less t s x (suc n) xs e h)
    ]

-- in a sound book every code has a class
class_some : (t : Tables) → Sound t → (x : ℕ) → class t x < t.width
class_some t b x =
    elim (cases_lt x 256) [
      | inl h ↦ b.class_below x h
      | inr h ↦ omega (arith, b.some_class, get_or_past t.classes x 0 (omega (arith, b.each_code)))
    ]

-- and every step leads to a state
pub step_state : (t : Tables) → Sound t → (s x : ℕ) → s < length t.accepts → stuck t s x ≡ false → step t s x < length t.accepts
step_state t b s x h e =
    elim (or_cases (ltb (step t s x) (length t.accepts)) (eqb (step t s x) 255) (b.step_below (s * t.width + class t x) (omega (arith, b.each_step, digits_lt h (class_some t b x))))) [
      | inl l ↦ ltb-true (step t s x) (length t.accepts) l
      | inr l ↦ absurd (both_ways (eqb (step t s x) 255) (or_parts (closed t s) (eqb (step t s x) 255) e).1 l)
    ]

-- so that a path stays among the states
pub path_below : (t : Tables) → Sound t → (s : ℕ) (xs : List ℕ) (n : ℕ) → s < length t.accepts → n ≤ length (path t s xs) → state s (path t s xs) n < length t.accepts
path_below t b s xs zero h l = h
path_below t b s [] (suc n) h l = absurd (omega arith)
path_below t b s (x ∷ xs) (suc n) h l =
    elim (cases_Bool (stuck t s x)) [
      | inl e ↦ absurd (stuck_ends t s x n xs e l)
      | inr e ↦ subst (λ z. z < length t.accepts) (sym (state_on t s x n xs e l)) (path_below t b (step t s x) xs n (step_state t b s x h e) (one_less t s x n xs e l))
    ]
