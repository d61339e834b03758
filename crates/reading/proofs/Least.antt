-- Laws of `least`.
use Rattle.std.proofs.Common.{◌≡◌, ℕ, zero, suc, ◌+◌, ◌-◌, ◌<◌, ◌≤◌, Bool, true, false, cond, sym, refl, ap, ◌∙◌, inl, inr, arith}
use Rattle.std.proofs.lemmas.Bool.{cases_Bool, cases_lt, both_ways}
use Rattle.reading.specs.Report.{least}

least_yes : (p : ℕ → Bool) (n : ℕ) → p 0 ≡ true → least p (suc n) ≡ 0
least_yes p n e = ap (λ b. cond b 0 (suc (least (λ k. p (suc k)) n))) e

least_no : (p : ℕ → Bool) (n : ℕ) → p 0 ≡ false → least p (suc n) ≡ suc (least (λ k. p (suc k)) n)
least_no p n e = ap (λ b. cond b 0 (suc (least (λ k. p (suc k)) n))) e

-- it is at most n
pub least_le : (p : ℕ → Bool) (n : ℕ) → least p n ≤ n
least_le p zero = omega arith
least_le p (suc n) =
    elim (cases_Bool (p 0)) [ inl e ↦ omega (arith, least_yes p n e) | inr e ↦ omega (arith, least_no p n e, least_le (λ k. p (suc k)) n) ]

-- below n it passes
pub least_passes : (p : ℕ → Bool) (n : ℕ) → least p n < n → p (least p n) ≡ true
least_passes p zero h = absurd (omega arith)
least_passes p (suc n) h =
    elim (cases_Bool (p 0)) [
      | inl e ↦ ap p (least_yes p n e) ∙ e
      | inr e ↦ ap p (least_no p n e) ∙ least_passes (λ k. p (suc k)) n (omega (arith, least_no p n e))
    ]

-- nothing smaller passes
pub least_below : (p : ℕ → Bool) (n i : ℕ) → i < least p n → p i ≡ false
least_below p zero i h = absurd (omega arith)
least_below p (suc n) zero h = elim (cases_Bool (p 0)) [ inl e ↦ absurd (omega (arith, least_yes p n e)) | inr e ↦ e ]
least_below p (suc n) (suc i) h =
    elim (cases_Bool (p 0)) [ inl e ↦ absurd (omega (arith, least_yes p n e)) | inr e ↦ least_below (λ k. p (suc k)) n i (omega (arith, least_no p n e)) ]

-- so what passes is no smaller
pub least_up_to : (p : ℕ → Bool) (n i : ℕ) → p i ≡ true → least p n ≤ i
least_up_to p n i y = elim (cases_lt i (least p n)) [ inl h ↦ absurd (both_ways (p i) (least_below p n i h) y) | inr h ↦ h ]

-- nothing but the least number has those laws
pub least_is : (p : ℕ → Bool) (n g : ℕ) → g ≤ n → (g < n → p g ≡ true) → ((i : ℕ) → i < g → p i ≡ false) → least p n ≡ g
least_is p n g l y below =
    elim (cases_lt (least p n) g) [
      | inl h ↦ absurd (both_ways (p (least p n)) (below (least p n) h) (least_passes p n (omega arith)))
      | inr h ↦ elim (cases_lt g n) [ inl k ↦ omega (arith, least_up_to p n g (y k)) | inr k ↦ omega (arith, least_le p n) ]
    ]

-- tests that agree below n have one least number
pub least_same : (p q : ℕ → Bool) (n : ℕ) → ((i : ℕ) → i < n → p i ≡ q i) → least p n ≡ least q n
least_same p q zero h = refl
least_same p q (suc n) h =
    ap (λ b. cond b 0 (suc (least (λ k. p (suc k)) n))) (h 0 (omega arith)) ∙
    ap (λ g. cond (q 0) 0 (suc g)) (least_same (λ k. p (suc k)) (λ k. q (suc k)) n (λ i l. h (suc i) (omega arith)))

-- the first k fail, and the search begins behind them
pub least_shift : (p : ℕ → Bool) (k n : ℕ) → ((i : ℕ) → i < k → p i ≡ false) → least p (k + n) ≡ k + least (λ i. p (k + i)) n
least_shift p k n below =
    let q : ℕ → Bool = λ i. p (k + i) in
    least_is
    p
    (k + n)
    (k + least q n)
    (omega (arith, least_le q n))
    (λ h. least_passes q n (omega arith))
    (λ i h. elim (cases_lt i k) [ inl l ↦ below i l | inr l ↦ shifted i l h ])
  where
    from : (i g : ℕ) → k + g ≡ i → p (k + g) ≡ false → p i ≡ false
    from i g e h = ap p (sym e) ∙ h

    shifted : (i : ℕ) → k ≤ i → i < k + least (λ j. p (k + j)) n → p i ≡ false
    shifted i l h = from i (i - k) (omega arith) (least_below (λ j. p (k + j)) n (i - k) (omega arith))
