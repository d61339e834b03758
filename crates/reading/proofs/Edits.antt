-- Edits: of a text that is replaced in part, and of the kinds that a corrected list gives to the list above it.
use Rattle.std.proofs.Common.{◌≡◌, ℕ, zero, suc, ◌+◌, ◌-◌, ◌<◌, ◌≤◌, eqb, List, [], ◌∷◌, ◌++◌, map, length, take, drop, sym, refl, ap, ◌∙◌, subst₂, inl, inr, arith, drop-drop}
use Rattle.std.proofs.lemmas.List.{length-append, length-take-le, take_at, drop_at, drop_all}
use Rattle.std.proofs.lemmas.Bool.{cases_lt, cond-true, cond-false, eq-eqb, ne_eqb}
use Rattle.books.specs.Tables.{Tables}
use Rattle.books.specs.Sound.{Sound}
use Rattle.reading.specs.Reading.{Entry, read, batch, kinds}
use Rattle.reading.specs.Report.{Edit, edit, Edited, report, first, rejoin, rejoined, through, edit_above}
use Rattle.reading.proofs.Lists.{length_kinds}
use Rattle.reading.proofs.Batch.{batch_kinds}
use Rattle.reading.proofs.Same.{batch_count}
use Rattle.reading.proofs.Rejoin.{Kept, report_kept}
use Rattle.reading.proofs.Covers.{kept_count}

-- what stands from place a to a + c gives way to i
pub replaced_edited : (s i : List ℕ) (a c : ℕ) → a + c ≤ length s → Edited (edit a c (length i)) s (take a s ++ (i ++ drop (a + c) s))
replaced_edited s i a c h =
    let front : length (take a s) ≡ a = length-take-le a s (omega arith) in
    let rest = i ++ drop (a + c) s in
    record {
      within = h;
      filled = omega (arith, length-append (take a s) rest, length-append i (drop (a + c) s), front);
      front = take_at (take a s) rest a front;
      back = sym (drop-drop (length i) a (take a s ++ rest)) ∙ ap (drop (length i)) (drop_at (take a s) rest a front) ∙ drop_at i (drop (a + c) s) (length i) refl;
    }

-- nothing is cut and nothing inserted
pub nothing_edited : (s : List ℕ) (a : ℕ) → a ≤ length s → Edited (edit a 0 0) s s
nothing_edited s a h = record { within = omega arith; filled = omega arith; front = refl; back = refl }

-- the kinds of the first entries, and of the others
pub take_kinds : (f : ℕ) (es : List Entry) → f < length es → take f (kinds es) ≡ map (λ e. e.kind) (take f es)
take_kinds zero es h = refl
take_kinds (suc f) [] h = absurd (omega arith)
take_kinds (suc f) (e ∷ []) h = absurd (omega arith)
take_kinds (suc f) (e ∷ g ∷ es) h = ap (λ l. e.kind ∷ l) (take_kinds f (g ∷ es) (omega arith))

pub drop_kinds : (n : ℕ) (es : List Entry) → drop n (kinds es) ≡ kinds (drop n es)
drop_kinds zero es = refl
drop_kinds (suc n) [] = refl
drop_kinds (suc n) (e ∷ []) = ap kinds (sym (drop_all n [] (omega arith)))
drop_kinds (suc n) (e ∷ g ∷ es) = drop_kinds n (g ∷ es)

module _ (e : Edit) (es fs : List Entry) (f k n : ℕ) (kept : Kept e es fs f k n) where
  kinds_front : take f (kinds fs) ≡ take f (kinds es)
  kinds_front = take_kinds f fs kept.first_new ∙ ap (map (λ e. e.kind)) kept.front ∙ sym (take_kinds f es kept.first_old)

  -- the kinds are edited where the entries are; where the end tokens are among those that give way, they do not count
  pub kept_kinds : n < length fs → Edited (edit f (k - f) (n - f)) (kinds es) (kinds fs)
  kept_kinds h =
      let old : f + (k - f) ≡ k = omega (arith, kept.old_from) in
      let new : f + (n - f) ≡ n = omega (arith, kept.new_from) in
      record {
        within = omega (arith, kept_count e es fs f k n kept, length_kinds es);
        filled = omega (arith, length_kinds fs);
        front = kinds_front;
        back = ap (λ i. drop i (kinds fs)) new ∙ drop_kinds n fs ∙ ap kinds kept.back ∙ sym (drop_kinds k es) ∙ ap (λ i. drop i (kinds es)) (sym old);
      }

  pub kept_kinds_through : n ≡ length fs → Edited (edit f (k - f - 1) (n - f - 1)) (kinds es) (kinds fs)
  kept_kinds_through h =
      let all : k ≡ length es = omega (arith, kept_count e es fs f k n kept) in
      let old : f + (k - f - 1) ≡ length es - 1 = omega (arith, kept.first_old) in
      let new : f + (n - f - 1) ≡ length fs - 1 = omega (arith, kept.first_new) in
      record {
        within = omega (arith, length_kinds es);
        filled = omega (arith, length_kinds fs);
        front = kinds_front;
        back = drop_all (f + (n - f - 1)) (kinds fs) (omega (arith, length_kinds fs)) ∙ sym (drop_all (f + (k - f - 1)) (kinds es) (omega (arith, length_kinds es)));
      }

module _ (t : Tables) (b : Sound t) (e : Edit) (xs ys : List ℕ) (d : Edited e xs ys) where
  abbrev old : List Entry
  old = batch t xs

  abbrev new : List Entry
  new = batch t ys

  abbrev f : ℕ
  f = first old e.place

  abbrev k : ℕ
  k = rejoined old new e

  abbrev n : ℕ
  n = rejoin old new e

  kept : Kept e (read t 0 0 xs) (read t 0 0 ys) f k n
  kept = report_kept t b e xs ys d

  from_batch : (c i : ℕ) → Edited (edit f c i) (kinds (read t 0 0 xs)) (kinds (read t 0 0 ys)) → Edited (edit f c i) (kinds old) (kinds new)
  from_batch c i h = subst₂ (λ x y. Edited (edit f c i) x y) (sym (batch_kinds t xs)) (sym (batch_kinds t ys)) h

  -- a report that counts the new end token counts the old one too
  pub through_both : (report old new e).first + (report old new e).«in» ≡ length new → (report old new e).first + (report old new e).out ≡ length old
  unfolding report
  through_both h =
      omega (arith, kept_count e (read t 0 0 xs) (read t 0 0 ys) f k n kept, kept.old_from, kept.new_from, batch_count t xs, batch_count t ys)

  pub through_not : (report old new e).first + (report old new e).«in» < length new → (report old new e).first + (report old new e).out < length old
  unfolding report
  through_not h =
      omega (arith, kept_count e (read t 0 0 xs) (read t 0 0 ys) f k n kept, kept.old_from, kept.new_from, batch_count t xs, batch_count t ys)

  -- the edit that the list above is corrected by
  pub kinds_edited : Edited (edit_above new (report old new e)) (kinds old) (kinds new)
  unfolding report
  kinds_edited =
      let es = read t 0 0 xs in
      let fs = read t 0 0 ys in
      let to : f + (n - f) ≡ n = omega (arith, kept.new_from) in
      elim (cases_lt n (length fs)) [
        | inl h ↦
            let none : through new (report old new e) ≡ 0 = cond-false (eqb (f + (n - f)) (length new)) 1 0 (ne_eqb (f + (n - f)) (length new) (λ q. omega (arith, batch_count t ys))) in
            from_batch _ _ (subst₂ (λ c i. Edited (edit f c i) (kinds es) (kinds fs)) (omega arith) (omega arith) (kept_kinds e es fs f k n kept h))
        | inr h ↦
            let one : through new (report old new e) ≡ 1 = cond-true (eqb (f + (n - f)) (length new)) 1 0 (eq-eqb (f + (n - f)) (length new) (omega (arith, batch_count t ys, kept.new_to))) in
            from_batch _ _ (subst₂ (λ c i. Edited (edit f c i) (kinds es) (kinds fs)) (omega arith) (omega arith) (kept_kinds_through e es fs f k n kept (omega (arith, kept.new_to))))
      ]
