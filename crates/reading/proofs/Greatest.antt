-- Laws of `greatest`.
use Rattle.std.proofs.Common.{◌≡◌, ℕ, zero, suc, ◌<◌, ◌≤◌, Bool, true, false, cond, ◌⊎◌, sym, refl, ap, ◌∙◌, inl, inr, arith}
use Rattle.std.proofs.lemmas.Bool.{cases_Bool, cases_eq}
use Rattle.reading.specs.Reading.{greatest}

greatest_yes : (p : ℕ → Bool) (n : ℕ) → p (suc n) ≡ true → greatest p (suc n) ≡ suc n
greatest_yes p n e = ap (λ b. cond b (suc n) (greatest p n)) e

greatest_no : (p : ℕ → Bool) (n : ℕ) → p (suc n) ≡ false → greatest p (suc n) ≡ greatest p n
greatest_no p n e = ap (λ b. cond b (suc n) (greatest p n)) e

-- it is at most n
pub greatest_le : (p : ℕ → Bool) (n : ℕ) → greatest p n ≤ n
greatest_le p zero = omega arith
greatest_le p (suc n) =
    elim (cases_Bool (p (suc n))) [ inl e ↦ omega (arith, greatest_yes p n e) | inr e ↦ omega (arith, greatest_no p n e, greatest_le p n) ]

-- it is 0 or passes
pub greatest_passes : (p : ℕ → Bool) (n : ℕ) → (greatest p n ≡ 0) ⊎ (p (greatest p n) ≡ true)
greatest_passes p zero = inl refl
greatest_passes p (suc n) =
    elim (cases_Bool (p (suc n))) [
      | inl e ↦ inr (ap p (greatest_yes p n e) ∙ e)
      | inr e ↦ elim (greatest_passes p n) [ inl z ↦ inl (greatest_no p n e ∙ z) | inr y ↦ inr (ap p (greatest_no p n e) ∙ y) ]
    ]

-- nothing greater passes
pub greatest_above : (p : ℕ → Bool) (n i : ℕ) → greatest p n < i → i ≤ n → p i ≡ false
greatest_above p zero i h l = absurd (omega arith)
greatest_above p (suc n) i h l =
    elim (cases_Bool (p (suc n))) [
      | inl e ↦ absurd (omega (arith, greatest_yes p n e))
      | inr e ↦ elim (cases_eq i (suc n)) [ inl q ↦ ap p q ∙ e | inr q ↦ greatest_above p n i (omega (arith, greatest_no p n e)) (omega arith) ]
    ]

-- nothing but the greatest number has those laws
pub greatest_is : (p : ℕ → Bool) (n g : ℕ) → g ≤ n → (g ≡ 0) ⊎ (p g ≡ true) → ((i : ℕ) → g < i → i ≤ n → p i ≡ false) → greatest p n ≡ g
greatest_is p zero g l y above = omega arith
greatest_is p (suc n) g l y above =
    elim (cases_eq g (suc n)) [
      | inl q ↦ elim y [ inl z ↦ absurd (omega arith) | inr e ↦ greatest_yes p n (ap p (sym q) ∙ e) ∙ sym q ]
      | inr q ↦ greatest_no p n (above (suc n) (omega arith) (omega arith)) ∙ greatest_is p n g (omega arith) y (λ i h k. above i h (omega arith))
    ]

-- tests that agree from 1 to n have one greatest number
pub greatest_same : (p q : ℕ → Bool) (n : ℕ) → ((i : ℕ) → 1 ≤ i → i ≤ n → p i ≡ q i) → greatest p n ≡ greatest q n
greatest_same p q zero h = refl
greatest_same p q (suc n) h =
    ap (λ b. cond b (suc n) (greatest p n)) (h (suc n) (omega arith) (omega arith)) ∙ ap (λ g. cond (q (suc n)) (suc n) g) (greatest_same p q n (λ i a b. h i a (omega arith)))

-- the greatest number of a test that begins one earlier: b is the test at 1, and g the greatest number of the test from 2 on
abbrev pub onward : Bool → ℕ → ℕ
onward b zero = cond b 1 0
onward b (suc g) = suc (suc g)

pub greatest_onward : (p : ℕ → Bool) (n : ℕ) → greatest p (suc n) ≡ onward (p 1) (greatest (λ i. p (suc i)) n)
greatest_onward p zero = refl
greatest_onward p (suc n) =
    elim (cases_Bool (p (suc (suc n)))) [
      | inl e ↦ greatest_yes p (suc n) e ∙ ap (onward (p 1)) (sym (greatest_yes (λ i. p (suc i)) n e))
      | inr e ↦ greatest_no p (suc n) e ∙ greatest_onward p n ∙ ap (onward (p 1)) (sym (greatest_no (λ i. p (suc i)) n e))
    ]
