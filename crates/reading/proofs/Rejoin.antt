-- Where the entries of an edited text fall on the old ones again, all that follows is kept.
use Rattle.std.proofs.Common.{◌≡◌, ℕ, ◌+◌, ◌-◌, ◌<◌, ◌≤◌, true, ◌&&◌, eqb, ltb, leb, List, length, take, drop, sym, ap, ◌∙◌, subst, ap₂, subst₂, inl, inr, arith, drop-drop}
use Rattle.std.proofs.lemmas.List.{length-drop, drop_all}
use Rattle.std.proofs.lemmas.Bool.{cases_lt, and_parts, cond-true, cond-false, leb-true, ltb-true, eqb-true, lt-ltb, le-ltb}
use Rattle.books.specs.Tables.{Tables}
use Rattle.books.specs.Sound.{Sound}
use Rattle.reading.specs.Reading.{Entry, read, start, reach, batch}
use Rattle.reading.specs.Laws.{mode_before}
use Rattle.reading.specs.Report.{Edit, Edited, first, starting, old_at, joins, rejoin, rejoined}
use Rattle.reading.proofs.Least.{least_le, least_passes}
use Rattle.reading.proofs.Lists.{suffix, start_end, mode_from_before, read_adds_up}
use Rattle.reading.proofs.Each.{first_within, first_before, first_or_later}
use Rattle.reading.proofs.Prefix.{prefix_same, prefix_within}
use Rattle.reading.proofs.Same.{batch_count, batch_start, batch_mode_before, batch_first}

-- behind the edit the texts are the same
pub edited_back : (e : Edit) (xs ys : List ℕ) → Edited e xs ys → (p q : ℕ) → e.place + e.inserted ≤ q → p + e.inserted ≡ q + e.cut → drop q ys ≡ drop p xs
edited_back e xs ys d p q h l =
    let i = q - (e.place + e.inserted) in
    let new : e.place + e.inserted + i ≡ q = omega arith in
    let old : e.place + e.cut + i ≡ p = omega arith in
    ap (λ n. drop n ys) (sym new) ∙ sym (drop-drop i (e.place + e.inserted) ys) ∙ ap (drop i) d.back ∙
    drop-drop i (e.place + e.cut) xs ∙ ap (λ n. drop n xs) old

-- and their lengths differ by it
pub edited_length : (e : Edit) (xs ys : List ℕ) → Edited e xs ys → length xs + e.inserted ≡ length ys + e.cut
edited_length e xs ys d = omega (arith, d.within, d.filled, ap length d.back, length-drop (e.place + e.inserted) ys, length-drop (e.place + e.cut) xs)

-- new entry n starts behind what was inserted, where old entry k does and in the same mode
pub record Joined (old new : List Entry) (e : Edit) (k n : ℕ) : Type 0 where
  pub old_there : k < length old
  pub new_there : n < length new
  pub behind : e.place + e.inserted ≤ start new n
  pub level : start old k + e.inserted ≡ start new n + e.cut
  pub mode : mode_before old k ≡ mode_before new n

-- then all from there on is kept
pub joined_same : (t : Tables) (e : Edit) (xs ys : List ℕ) → Edited e xs ys → (k n : ℕ) → Joined (read t 0 0 xs) (read t 0 0 ys) e k n →
    drop n (read t 0 0 ys) ≡ drop k (read t 0 0 xs)
joined_same t e xs ys d k n j =
    let es = read t 0 0 xs in
    let fs = read t 0 0 ys in
    suffix t 0 ys n j.new_there ∙
    ap₂
    (λ m zs. read t m 0 zs)
    (mode_from_before fs n ∙ sym j.mode ∙ sym (mode_from_before es k))
    (edited_back e xs ys d (start es k) (start fs n) j.behind j.level) ∙
    sym (suffix t 0 xs k j.old_there)

pub joined_batch : (t : Tables) (e : Edit) (xs ys : List ℕ) (k n : ℕ) → Joined (batch t xs) (batch t ys) e k n → Joined (read t 0 0 xs) (read t 0 0 ys) e k n
joined_batch t e xs ys k n j =
    record {
      old_there = omega (arith, j.old_there, batch_count t xs);
      new_there = omega (arith, j.new_there, batch_count t ys);
      behind = omega (arith, j.behind, batch_start t ys n);
      level = omega (arith, j.level, batch_start t xs k, batch_start t ys n);
      mode = sym (batch_mode_before t xs k) ∙ j.mode ∙ batch_mode_before t ys n;
    }

-- the entry that starts at a place does so
pub starting_at : (old : List Entry) (p : ℕ) → starting old p < length old → start old (starting old p) ≡ p
starting_at old p h = eqb-true (start old (starting old p)) p (least_passes (λ k. eqb (start old k) p) (length old) h)

-- a new entry that passes the test is joined
pub joins_joined : (old new : List Entry) (e : Edit) (j : ℕ) → j < length new → joins old new e j ≡ true → Joined old new e (old_at old new e j) j
joins_joined old new e j h y =
    let k = old_at old new e j in
    let parts = and_parts (leb (e.place + e.inserted) (start new j)) (ltb k (length old) && eqb (mode_before old k) (mode_before new j)) y in
    let more = and_parts (ltb k (length old)) (eqb (mode_before old k) (mode_before new j)) parts.1 in
    let far : e.place + e.inserted ≤ start new j = leb-true (e.place + e.inserted) (start new j) parts.0 in
    let there : k < length old = ltb-true k (length old) more.0 in
    record {
      old_there = there;
      new_there = h;
      behind = far;
      level = omega (arith, starting_at old ((start new j + e.cut) - e.inserted) there);
      mode = eqb-true (mode_before old k) (mode_before new j) more.1;
    }

module _ (old new : List Entry) (e : Edit) where
  abbrev f : ℕ
  f = first old e.place

  abbrev n : ℕ
  n = rejoin old new e

  abbrev k : ℕ
  k = rejoined old new e

  pub rejoin_from : f ≤ n
  rejoin_from = omega arith

  pub rejoin_to : f ≤ length new → n ≤ length new
  rejoin_to h = omega (arith, least_le (λ k. joins old new e (f + k)) (length new - f))

  -- the rejoin is joined, or there is none
  pub rejoin_joined : n < length new → Joined old new e k n
  rejoin_joined h =
      let here : k ≡ old_at old new e n = cond-true (ltb n (length new)) (old_at old new e n) (length old) (lt-ltb n (length new) h) in
      let passes : joins old new e n ≡ true = least_passes (λ k. joins old new e (f + k)) (length new - f) (omega arith) in
      subst (λ i. Joined old new e i n) (sym here) (joins_joined old new e n h passes)

  pub rejoin_none : length new ≤ n → k ≡ length old
  rejoin_none h = cond-false (ltb n (length new)) (old_at old new e n) (length old) (le-ltb n (length new) h)

-- The first f entries of es, and those from k on, are kept in fs, where the latter stand from n on
pub record Kept (e : Edit) (es fs : List Entry) (f k n : ℕ) : Type 0 where
  pub first_old : f < length es
  pub first_new : f < length fs
  pub old_from : f ≤ k
  pub old_to : k ≤ length es
  pub new_from : f ≤ n
  pub new_to : n ≤ length fs
  pub front : take f fs ≡ take f es
  pub back : drop n fs ≡ drop k es
  pub before : (j : ℕ) → j < f → reach es j ≤ e.place
  pub behind : e.place + e.inserted ≤ start fs n
  pub level : start es k + e.inserted ≡ start fs n + e.cut

-- what a report counts is kept
module _ (t : Tables) (b : Sound t) (e : Edit) (xs ys : List ℕ) (d : Edited e xs ys) where
  abbrev es : List Entry
  es = read t 0 0 xs

  abbrev fs : List Entry
  fs = read t 0 0 ys

  abbrev old : List Entry
  old = batch t xs

  abbrev new : List Entry
  new = batch t ys

  pub report_first : first old e.place < length es
  report_first = omega (arith, batch_first t xs e.place, first_within t b xs e.place (omega (arith, d.within)))

  pub report_before : (j : ℕ) → j < first old e.place → reach es j ≤ e.place
  report_before j h = first_before t b xs e.place j (omega (arith, batch_first t xs e.place))

  kept_joined : (f k n : ℕ) → f < length es → ((j : ℕ) → j < f → reach es j ≤ e.place) → f ≤ n → Joined es fs e k n → Kept e es fs f k n
  kept_joined f k n here before l j =
      record {
        first_old = here;
        first_new = prefix_within t b xs ys e.place (omega (arith, d.within)) (omega (arith, d.filled)) d.front f here before;
        old_from = first_or_later t b xs e.place f k before j.old_there (omega (arith, j.behind, j.level));
        old_to = omega (arith, j.old_there);
        new_from = l;
        new_to = omega (arith, j.new_there);
        front = prefix_same t b xs ys e.place (omega (arith, d.within)) (omega (arith, d.filled)) d.front f here before;
        back = joined_same t e xs ys d k n j;
        before = before;
        behind = j.behind;
        level = j.level;
      }

  -- to the end, where there is no rejoin
  kept_none : (f : ℕ) → f < length es → ((j : ℕ) → j < f → reach es j ≤ e.place) → Kept e es fs f (length es) (length fs)
  kept_none f here before =
      let within : f < length fs = prefix_within t b xs ys e.place (omega (arith, d.within)) (omega (arith, d.filled)) d.front f here before in
      let old-end : start es (length es) ≡ length xs = omega (arith, start_end es, read_adds_up t 0 0 xs) in
      let new-end : start fs (length fs) ≡ length ys = omega (arith, start_end fs, read_adds_up t 0 0 ys) in
      record {
        first_old = here;
        first_new = within;
        old_from = omega arith;
        old_to = omega arith;
        new_from = omega arith;
        new_to = omega arith;
        front = prefix_same t b xs ys e.place (omega (arith, d.within)) (omega (arith, d.filled)) d.front f here before;
        back = drop_all (length fs) fs (omega arith) ∙ sym (drop_all (length es) es (omega arith));
        before = before;
        behind = omega (arith, d.filled);
        level = omega (arith, edited_length e xs ys d);
      }

  -- the rejoin is joined, or both lists give way to the end
  pub report_joined : (rejoin old new e < length new) → Joined es fs e (rejoined old new e) (rejoin old new e)
  report_joined h = joined_batch t e xs ys (rejoined old new e) (rejoin old new e) (rejoin_joined old new e h)

  pub report_none : length new ≤ rejoin old new e → (rejoin old new e ≡ length new) × (rejoined old new e ≡ length old)
  report_none h =
      let none : Kept e es fs (first old e.place) (length es) (length fs) = kept_none (first old e.place) report_first report_before in
      (omega (arith, rejoin_to old new e (omega (arith, none.first_new, batch_count t ys))), rejoin_none old new e h)

  pub report_kept : Kept e es fs (first old e.place) (rejoined old new e) (rejoin old new e)
  report_kept =
      let f = first old e.place in
      let none : Kept e es fs f (length es) (length fs) = kept_none f report_first report_before in
      elim (cases_lt (rejoin old new e) (length new)) [
        | inl h ↦ kept_joined f (rejoined old new e) (rejoin old new e) report_first report_before (rejoin_from old new e) (report_joined h)
        | inr h ↦
            let k : rejoined old new e ≡ length es = (report_none h).1 ∙ batch_count t xs in
            let n : rejoin old new e ≡ length fs = (report_none h).0 ∙ batch_count t ys in
            subst₂ (λ i j. Kept e es fs f i j) (sym k) (sym n) none
      ]
