-- The lookbacks of kept entries, and how far they change.
use Rattle.std.proofs.Common.{◌≡◌, ℕ, zero, suc, pred, ◌+◌, ◌-◌, ◌<◌, ◌≤◌, Bool, true, false, not, eqb, ltb, List, drop, sym, ap, ◌∙◌, subst, ap₂, inl, inr, add-one, arith}
use Rattle.std.proofs.lemmas.Bool.{cases_lt, cases_eq, lt-ltb, le-ltb, eq-eqb, ne_eqb, not_from_true, not_from_false, not-false, eqb-true}
use Rattle.reading.specs.Reading.{Entry, greatest, start, at, reach, lookback}
use Rattle.reading.specs.Report.{Edit, changed}
use Rattle.reading.proofs.Greatest.{greatest_le, greatest_passes, greatest_above, greatest_is}
use Rattle.reading.proofs.Lists.{start_up}
use Rattle.reading.proofs.Lookback.{Passed, lookback_le}
use Rattle.reading.proofs.Split.{start_from, reach_from, same_reach}
use Rattle.reading.proofs.Rejoin.{Kept}

abbrev test : List Entry → ℕ → ℕ → Bool
test es j b = ltb (start es j) (reach es (j - b))

ltb_add : (a x y : ℕ) → ltb (a + x) (a + y) ≡ ltb x y
ltb_add a x y =
    elim (cases_lt x y) [
      | inl h ↦ lt-ltb (a + x) (a + y) (omega arith) ∙ sym (lt-ltb x y h)
      | inr h ↦ le-ltb (a + x) (a + y) (omega arith) ∙ sym (le-ltb x y h)
    ]

-- where none of the first k entries reads the start of an entry behind them, its lookback depends on the others alone
pub lookback_from : (es : List Entry) (k q : ℕ) → Passed es k (k + q) → lookback es (k + q) ≡ lookback (drop k es) q
lookback_from es k q passed =
    greatest_is
    (test es (k + q))
    (k + q)
    (lookback (drop k es) q)
    (omega (arith, lookback_le (drop k es) q))
    (elim (greatest_passes (test (drop k es) q) q) [ inl z ↦ inl z | inr y ↦ inr (shift (lookback (drop k es) q) (lookback_le (drop k es) q) ∙ y) ])
    (λ i h l. elim (cases_lt q i) [ inl c ↦ le-ltb (start es (k + q)) (reach es (k + q - i)) (passed (k + q - i) (omega arith)) | inr c ↦ shift i c ∙ greatest_above (test (drop k es) q) q i h c ])
  where
    shift : (i : ℕ) → i ≤ q → test es (k + q) i ≡ test (drop k es) q i
    shift i h =
        let back : k + q - i ≡ k + (q - i) = omega arith in
        ap₂ ltb (start_from es k q) (ap (reach es) back ∙ reach_from es k (q - i)) ∙ ltb_add (start es k) (start (drop k es) q) (reach (drop k es) (q - i))

-- so a kept entry keeps it, where neither list has an entry before the kept ones that reads its start
pub lookback_kept : (es fs : List Entry) (k n q : ℕ) → drop n fs ≡ drop k es → Passed es k (k + q) → Passed fs n (n + q) → lookback fs (n + q) ≡ lookback es (k + q)
lookback_kept es fs k n q same old new = lookback_from fs n q new ∙ ap (λ l. lookback l q) same ∙ sym (lookback_from es k q old)

-- the entries from f on and before k reach no further than the limit
abbrev pub Reached : List Entry → ℕ → ℕ → ℕ → Type 0
Reached es f k limit = (i : ℕ) → f ≤ i → i < k → reach es i ≤ limit

pub reached_none : (es : List Entry) (f limit : ℕ) → Reached es f f limit
reached_none es f limit i h l = absurd (omega arith)

pub reached_more : (es : List Entry) (f k limit : ℕ) → Reached es f k limit → reach es k ≤ limit → Reached es f (k + 1) limit
reached_more es f k limit old h i a l = elim (cases_eq i k) [ inl e ↦ subst (λ n. reach es n ≤ limit) (sym e) h | inr e ↦ old i a (omega arith) ]

pub reached_further : (es : List Entry) (f k limit further : ℕ) → limit ≤ further → Reached es f k limit → Reached es f k further
reached_further es f k limit further h old i a l = omega (arith, old i a l)

-- The kept entries whose starts lie at or behind all that the others reach keep their lookbacks
module _ (e : Edit) (es fs : List Entry) (f k n : ℕ) (kept : Kept e es fs f k n) where
  pub old_passed : (limit q : ℕ) → Reached es f k limit → limit ≤ start es (k + q) → Passed es k (k + q)
  old_passed limit q reached h i l =
      elim (cases_lt i f) [
        | inl c ↦ omega (arith, kept.before i c, kept.behind, kept.level, start_up es k (k + q) (omega arith))
        | inr c ↦ omega (arith, reached i c l)
      ]

  pub new_passed : (limit q : ℕ) → Reached fs f n limit → limit ≤ start fs (n + q) → Passed fs n (n + q)
  new_passed limit q reached h i l =
      elim (cases_lt i f) [
        | inl c ↦ omega (arith, kept.before i c, same_reach f es fs kept.front i c, kept.behind, start_up fs n (n + q) (omega arith))
        | inr c ↦ omega (arith, reached i c l)
      ]

  pub kept_lookback : (old new q : ℕ) → Reached es f k old → Reached fs f n new → old ≤ start es (k + q) → new ≤ start fs (n + q) →
      lookback fs (n + q) ≡ lookback es (k + q)
  kept_lookback old new q o w h l = lookback_kept es fs k n q kept.back (old_passed old q o h) (new_passed new q w l)

  -- a kept entry starts as much later, or earlier, as the first of them
  pub kept_level : (q : ℕ) → start es (k + q) + e.inserted ≡ start fs (n + q) + e.cut
  kept_level q = omega (arith, kept.level, start_from es k q, start_from fs n q, ap (λ l. start l q) kept.back)

-- the greatest of the first q numbers, where nothing passes from there on
pub greatest_stops : (p : ℕ → Bool) (q n : ℕ) → q ≤ n → ((i : ℕ) → q < i → i ≤ n → p i ≡ false) → greatest p n ≡ greatest p q
greatest_stops p q n h none =
    greatest_is p n (greatest p q) (omega (arith, greatest_le p q)) (greatest_passes p q) (λ i l k. elim (cases_lt q i) [ inl c ↦ none i c k | inr c ↦ greatest_above p q i l c ])

-- one number more, for a loop: it passes, or not
pub greatest_more : (p : ℕ → Bool) (q : ℕ) → p (q + 1) ≡ true → greatest p (q + 1) ≡ q + 1
greatest_more p q y = greatest_is p (q + 1) (q + 1) (omega arith) (inr y) (λ i h l. absurd (omega arith))

pub greatest_less : (p : ℕ → Bool) (q : ℕ) → p (q + 1) ≡ false → greatest p (q + 1) ≡ greatest p q
greatest_less p q y = greatest_stops p q (q + 1) (omega arith) (λ i h l. let here : q + 1 ≡ i = omega arith in ap p (sym here) ∙ y)

-- a kept entry's lookback is another, or the same
pub changed_yes : (old new : List Entry) (k n q : ℕ) → ((at new (n + q)).lookback ≡ (at old (k + q)).lookback → ⊥) → changed old new k n (q + 1) ≡ true
changed_yes old new k n q h =
    let here : pred (q + 1) ≡ q = omega arith in
    ap (λ i. not (eqb (at old (k + i)).lookback (at new (n + i)).lookback)) here ∙ not_from_false _ (ne_eqb (at old (k + q)).lookback (at new (n + q)).lookback (λ e. h (sym e)))

pub changed_no : (old new : List Entry) (k n q : ℕ) → (at new (n + q)).lookback ≡ (at old (k + q)).lookback → changed old new k n (q + 1) ≡ false
changed_no old new k n q h =
    let here : pred (q + 1) ≡ q = omega arith in
    ap (λ i. not (eqb (at old (k + i)).lookback (at new (n + i)).lookback)) here ∙ not_from_true _ (eq-eqb (at old (k + q)).lookback (at new (n + q)).lookback (sym h))

-- what has not changed is the same
pub changed_same : (old new : List Entry) (k n q : ℕ) → changed old new k n (suc q) ≡ false → (at new (n + q)).lookback ≡ (at old (k + q)).lookback
changed_same old new k n q h = sym (eqb-true (at old (k + q)).lookback (at new (n + q)).lookback (not-false _ h))

-- the tail, of count kept entries, is the greatest changed among the first q, where nothing changes from q on
pub tail_stops : (old new : List Entry) (k n q count : ℕ) → q ≤ count → ((i : ℕ) → q ≤ i → i < count → (at new (n + i)).lookback ≡ (at old (k + i)).lookback) →
    greatest (changed old new k n) count ≡ greatest (changed old new k n) q
tail_stops old new k n q count h same = greatest_stops (changed old new k n) q count h stays
  where
    stays : (i : ℕ) → q < i → i ≤ count → changed old new k n i ≡ false
    stays zero a l = absurd (omega arith)
    stays (suc i) a l = ap (changed old new k n) (sym (add-one i)) ∙ changed_no old new k n i (same i (omega arith) (omega arith))

pub tail_le : (old new : List Entry) (k n q count : ℕ) → ((i : ℕ) → q ≤ i → i < count → (at new (n + i)).lookback ≡ (at old (k + i)).lookback) → greatest (changed old new k n) count ≤ q
tail_le old new k n q count same =
    elim (cases_lt q count) [
      | inl h ↦ omega (arith, tail_stops old new k n q count (omega arith) same, greatest_le (changed old new k n) q)
      | inr h ↦ omega (arith, greatest_le (changed old new k n) count)
    ]
