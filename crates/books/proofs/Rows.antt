-- A state's row, of which every code's entry is looked at.
use Rattle.std.proofs.Common.{◌≡◌, ℕ, suc, ◌+◌, ◌-◌, ◌*◌, ◌<◌, ◌≤◌, true, false, ◌&&◌, ◌==◌, List, [], ◌∷◌, length, get_or, take, drop, None, refl, sym, ap, ◌∙◌, mul_comm, arith}
use Rattle.std.specs.List.{list_all}
use Rattle.std.proofs.lemmas.Nat.{mul-add-lt, mul-le}
use Rattle.std.proofs.lemmas.List.{at_drop_more, at_drop_all, get_or_past, get_or_default, get_or-take, get_or-drop, length-take-le, length-drop}
use Rattle.std.proofs.lemmas.List.Sums.{list_all-from_AllPass, AllPass-from_list_all}
use Rattle.std.proofs.lemmas.Bool.{eq-eqb, ne_eqb, ltb-true}
use Rattle.books.specs.declared.fault.BookFault.TheVariants.{Class}
use Rattle.books.specs.Tables.{Tables, class, no_step}
use Rattle.books.specs.Check.{Plan, class_right, length_fault, class_fault}
use Rattle.books.proofs.Questions.{each_yes, mapped_none}
use Rattle.books.proofs.Facts.{lengths_known}

-- each code's class is below the width
pub class_low : (p : Plan) → class_fault p ≡ None → (i : ℕ) → i < length p.tables.classes → class p.tables i < p.tables.width
class_low p classes i h = ltb-true _ _ (each_yes (class_right p) p.tables.classes 0 (mapped_none Class _ classes) i h)

-- the entry of a state at code i
pub entry_place : (p : Plan) → length_fault p ≡ None → class_fault p ≡ None → (s i : ℕ) → s < p.states → i < length p.tables.classes → s * p.tables.width + class p.tables i < length p.tables.steps
entry_place p lengths classes s i in-states in-codes =
    omega (arith, mul-add-lt s p.tables.width (class p.tables i) p.states in-states (class_low p classes i in-codes), mul_comm p.tables.width p.states, (lengths_known p lengths).steps)

-- a code without a step leaves the answer to the codes after it
pub row_more : (t : Tables) (s i : ℕ) → i < length t.classes → get_or t.steps (s * t.width + class t i) 255 ≡ 255 → no_step t s (drop (i + 1) t.classes) ≡ no_step t s (drop i t.classes)
row_more t s i h none =
    sym (at_drop_more (no_step t s) t.classes i 0 h ∙ ap (λ b. b && no_step t s (drop (i + 1) t.classes)) (eq-eqb _ _ none))

-- a code with a step decides
pub row_stops : (t : Tables) (s i : ℕ) → i < length t.classes → (get_or t.steps (s * t.width + class t i) 255 ≡ 255 → ⊥) → no_step t s (drop i t.classes) ≡ false
row_stops t s i h some =
    at_drop_more (no_step t s) t.classes i 0 h ∙ ap (λ b. b && no_step t s (drop (i + 1) t.classes)) (ne_eqb _ _ some)

pub row_ends : (t : Tables) (s i : ℕ) → length t.classes ≤ i → no_step t s (drop i t.classes) ≡ true
row_ends t s i h = at_drop_all (no_step t s) t.classes i h

-- no class of a list has a step where each entry is 255
pub no_step-all : (t : Tables) (s : ℕ) (ks : List ℕ) → list_all (λ k. get_or t.steps (s * t.width + k) 255 == 255) ks ≡ no_step t s ks
no_step-all t s [] = refl
no_step-all t s (k ∷ ks) = ap (λ b. get_or t.steps (s * t.width + k) 255 == 255 && b) (no_step-all t s ks)

-- the row of a state lies in the step table
pub row_place : (p : Plan) → length_fault p ≡ None → (s : ℕ) → s < p.states → s * p.tables.width + p.tables.width ≤ length p.tables.steps
row_place p lengths s h = omega (arith, mul-le (s + 1) p.tables.width p.states p.tables.width (omega (arith, h)) (omega arith), (lengths_known p lengths).steps)

module _ (t : Tables) (s : ℕ) (within : s * t.width + t.width ≤ length t.steps) where
  abbrev pub row : List ℕ
  row = take (s * t.width + t.width - s * t.width) (drop (s * t.width) t.steps)

  pub row_long : length row ≡ t.width
  row_long = omega (arith, length-take-le (s * t.width + t.width - s * t.width) (drop (s * t.width) t.steps) (omega (arith, length-drop (s * t.width) t.steps, within)))

  entry : (k : ℕ) → k < t.width → get_or row k 0 ≡ get_or t.steps (s * t.width + k) 255
  entry k h =
      get_or-take (s * t.width + t.width - s * t.width) (drop (s * t.width) t.steps) k 0 (omega arith) ∙ get_or-drop (s * t.width) t.steps k 0
      ∙ get_or_default t.steps (s * t.width + k) 0 255 (omega arith)

  -- the entries of classes, looked up in the row
  pub no_step-row : (ks : List ℕ) → ((i : ℕ) → i < length ks → get_or ks i 0 < t.width) → list_all (λ k. get_or row k 0 == 255) ks ≡ no_step t s ks
  no_step-row [] low = refl
  no_step-row (k ∷ ks) low =
      ap (λ n. n == 255 && list_all (λ k. get_or row k 0 == 255) ks) (entry k (low 0 (omega arith)))
      ∙ ap (λ b. get_or t.steps (s * t.width + k) 255 == 255 && b) (no_step-row ks (λ i h. low (suc i) (omega arith)))

  -- a row without a step has none at any class
  pub no_step-none : list_all (λ n. n == 255) row ≡ true → (ks : List ℕ) → ((i : ℕ) → i < length ks → get_or ks i 0 < t.width) → no_step t s ks ≡ true
  no_step-none e ks low =
      sym (no_step-row ks low)
      ∙ list_all-from_AllPass (λ k. get_or row k 0 == 255) ks (λ i d h. AllPass-from_list_all (λ n. n == 255) row e (get_or ks i d) 0 (omega (arith, row_long, low i h, get_or_default ks i d 0 h)))

-- past the last of n states there is no row, and so no step
pub no_step-past : (t : Tables) (n s : ℕ) → length t.steps ≡ n * t.width → n ≤ s → (ks : List ℕ) → no_step t s ks ≡ true
no_step-past t n s long past [] = refl
no_step-past t n s long past (k ∷ ks) =
    let behind : length t.steps ≤ s * t.width + k = omega (arith, mul-le n t.width s t.width past (omega arith)) in
    rw (get_or_past t.steps (s * t.width + k) 255 behind) (no_step-past t n s long past ks)
