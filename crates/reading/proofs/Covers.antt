-- The law of a report: outside of what it covers, nothing has changed.
use Rattle.std.proofs.Common.{◌≡◌, ℕ, suc, ◌+◌, ◌-◌, ◌<◌, ◌≤◌, List, length, sym, ap, ◌∙◌, ap₂, subst₂, arith}
use Rattle.std.proofs.lemmas.List.{length-drop}
use Rattle.books.specs.Tables.{Tables}
use Rattle.books.specs.Sound.{Sound}
use Rattle.reading.specs.Reading.{Entry, greatest, read, at, with_lookback, listed, batch}
use Rattle.reading.specs.Report.{Edit, Edited, report, first, rejoin, rejoined, changed, Covers}
use Rattle.reading.proofs.Greatest.{greatest_le, greatest_above}
use Rattle.reading.proofs.Lookback.{length_listed, at_listed}
use Rattle.reading.proofs.Split.{at_from, same_at, same_lookback}
use Rattle.reading.proofs.Rejoin.{Kept, report_kept}
use Rattle.reading.proofs.Tail.{changed_same}

-- an entry is its lookback and all else
pub entry_same : (a b : Entry) → with_lookback 0 a ≡ with_lookback 0 b → a.lookback ≡ b.lookback → a ≡ b
entry_same a b e l = ap₂ (λ c n. with_lookback n c) e l

module _ (e : Edit) (es fs : List Entry) (f k n : ℕ) (kept : Kept e es fs f k n) where
  abbrev old : List Entry
  old = listed es es 0

  abbrev new : List Entry
  new = listed fs fs 0

  old_count : length old ≡ length es
  old_count = length_listed es es 0

  new_count : length new ≡ length fs
  new_count = length_listed fs fs 0

  -- as many entries are kept as there are
  pub kept_count : length fs + k ≡ length es + n
  kept_count = omega (arith, kept.old_to, kept.new_to, ap length kept.back, length-drop n fs, length-drop k es)

  pub kept_at : (q : ℕ) → at fs (n + q) ≡ at es (k + q)
  kept_at q = sym (at_from fs n q) ∙ ap (λ l. at l q) kept.back ∙ at_from es k q

  pub kept_entry : (q : ℕ) → n + q < length fs → with_lookback 0 (at new (n + q)) ≡ with_lookback 0 (at old (k + q))
  kept_entry q h =
      ap (with_lookback 0) (at_listed fs (n + q) h) ∙ ap (with_lookback 0) (kept_at q) ∙
      sym (ap (with_lookback 0) (at_listed es (k + q) (omega (arith, kept_count))))

  pub before_entry : (j : ℕ) → j < f → at new j ≡ at old j
  before_entry j h =
      at_listed fs j (omega (arith, kept.first_new)) ∙
      ap₂ with_lookback (same_lookback f es fs kept.front j (omega arith)) (same_at f es fs kept.front j h) ∙
      sym (at_listed es j (omega (arith, kept.first_old)))

  abbrev tail : ℕ
  tail = greatest (changed old new k n) (length new - n)

  pub beyond_entry : (q : ℕ) → tail ≤ q → n + q < length fs → at new (n + q) ≡ at old (k + q)
  beyond_entry q l h =
      entry_same
      (at new (n + q))
      (at old (k + q))
      (kept_entry q h)
      (changed_same old new k n q (greatest_above (changed old new k n) (length new - n) (suc q) (omega arith) (omega (arith, new_count))))

  pub kept_covers : Covers old new (record { first = f; out = k - f; «in» = n - f; tail = tail })
  kept_covers =
      record {
        old_there = omega (arith, kept.old_from, kept.old_to, old_count);
        new_there = omega (arith, kept.new_from, kept.new_to, new_count, greatest_le (changed old new k n) (length new - n));
        balance = omega (arith, kept_count, old_count, new_count, kept.old_from, kept.new_from);
        before = before_entry;
        kept = λ i a h. there i (omega (arith, kept.new_from)) (λ x y. with_lookback 0 x ≡ with_lookback 0 y) (kept_entry (i - n) (omega (arith, new_count, kept.new_from)));
        beyond = λ i a h. there i (omega (arith, kept.new_from)) (λ x y. x ≡ y) (beyond_entry (i - n) (omega (arith, kept.new_from)) (omega (arith, new_count, kept.new_from)));
      }
    where
      there : (i : ℕ) → n ≤ i → (P : Entry → Entry → Type 0) → P (at new (n + (i - n))) (at old (k + (i - n))) → P (at new i) (at old ((i - (n - f)) + (k - f)))
      there i h P p =
          let in-new : n + (i - n) ≡ i = omega arith in
          let in-old : k + (i - n) ≡ (i - (n - f)) + (k - f) = omega (arith, kept.new_from, kept.old_from) in
          subst₂ (λ x y. P (at new x) (at old y)) in-new in-old p

-- the law in full
pub covers : (t : Tables) → Sound t → (e : Edit) (xs ys : List ℕ) → Edited e xs ys → Covers (batch t xs) (batch t ys) (report (batch t xs) (batch t ys) e)
unfolding batch report
covers t b e xs ys d =
    kept_covers e (read t 0 0 xs) (read t 0 0 ys) (first (batch t xs) e.place) (rejoined (batch t xs) (batch t ys) e) (rejoin (batch t xs) (batch t ys) e) (report_kept t b e xs ys d)
