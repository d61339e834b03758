-- A list brought up to date: what was written, and the lookbacks given anew, make the list of the text after the edit.
use Rattle.std.proofs.Common.{◌≡◌, ℕ, pred, ◌+◌, ◌-◌, ◌^◌, ◌<◌, ◌≤◌, not, eqb, List, ◌++◌, length, take, drop, sym, refl, ap, ◌∙◌, subst, ap₂, subst₂, inl, inr, arith}
use Rattle.std.proofs.lemmas.List.{length-take-le, take-append-drop, take_at}
use Rattle.std.proofs.lemmas.Bool.{cases_lt}
use Rattle.books.specs.Tables.{Tables}
use Rattle.books.specs.Sound.{Sound}
use Rattle.reading.specs.Reading.{Entry, read, start, at, reach, batch, greatest}
use Rattle.reading.specs.Laws.{mode_before}
use Rattle.reading.specs.Report.{Edit, Edited, Report, Covers, report, first, rejoin, rejoined, changed}
use Rattle.reading.proofs.Greatest.{greatest_same}
use Rattle.reading.proofs.Lookback.{Passed}
use Rattle.reading.proofs.Split.{same_start}
use Rattle.reading.proofs.Each.{each_reads}
use Rattle.reading.proofs.Same.{batch_count, batch_reach, batch_reading, batch_start, batch_mode_before}
use Rattle.reading.proofs.Rejoin.{rejoin_to, report_first, report_kept}
use Rattle.reading.proofs.Covers.{covers, kept_count}
use Rattle.reading.proofs.Walk.{fresh_from, fresh_length}
use Rattle.reading.proofs.Batch.{batch_length}
use Rattle.reading.proofs.Steps.{fresh_of}
use Rattle.reading.proofs.Alike.{alike_length, given_to}
use Rattle.reading.proofs.Correct.{batch_own, report_is, first_pointer, put_alike, put_begin, put_at, put_given, put_given_all, put_tail, put_limit}
use Rattle.scanner.proofs.Written.{reach_within}
use Rattle.correction.specs.Walks.{Met, Walked}
use Rattle.correction.specs.Lookbacks.{Awaits, Given}
use Rattle.correction.specs.Promise.{Brought}

module _ (t : Tables) (b : Sound t) (e : Edit) (xs ys : List ℕ) (es : List Entry) (room : ℕ) (small : room < 2 ^ 64) (met : Met t e xs ys es room)
    (f starts mode added k limit : ℕ) (f-is : f ≡ first es e.place) (starts_is : starts ≡ start es f) (mode-is : mode ≡ mode_before es f) (w : Walked t e xs ys added k limit) where
  abbrev old : List Entry
  old = batch t xs

  abbrev new : List Entry
  new = batch t ys

  abbrev d : Edited e xs ys
  d = met.edited

  abbrev F : ℕ
  F = first old e.place

  abbrev fresh : List Entry
  fresh = fresh_of t e xs ys

  f_eq : f ≡ F
  f_eq = cc

  -- what is read from the first entry on
  pub fresh_is : read t mode 0 (drop starts ys) ≡ fresh
  fresh_is = cc (f_eq, batch_mode_before t xs F, batch_start t xs F)

  first_old : F < length old
  first_old = omega (arith, report_first t b e xs ys d, batch_count t xs)

  new_count : length new ≡ F + length fresh
  new_count = batch_count t ys ∙ fresh_length t b e xs ys d

  -- the new entries are there to be read
  pub added_within : added ≤ length (read t mode 0 (drop starts ys))
  added_within = omega (arith, ap length fresh_is, w.rejoin, new_count, rejoin_to old new e (omega (arith, new_count)))

  abbrev got : List Entry
  got = take added fresh

  abbrev rest : List Entry
  rest = drop added fresh

  got_count : length got ≡ added
  got_count = length-take-le added fresh (omega (arith, added_within, ap length fresh_is))

  on : got ++ rest ≡ fresh
  on = take-append-drop added fresh

  n_is : rejoin old new e ≡ F + length got
  n_is = omega (arith, got_count)

  abbrev done : List Entry
  done = take F old ++ (got ++ drop (rejoined old new e) old)

  abbrev n : ℕ
  n = F + length got

  abbrev kept : ℕ
  kept = rejoined old new e

  -- the list as it was put
  module _ (now : List Entry) (now-is : now ≡ take f es ++ (take added (read t mode 0 (drop starts ys)) ++ drop k es)) where
    pub now_done : now ≡ done
    now_done = cc (f_eq, fresh_is)

    -- is as it was before the first entry
    now_front : take f now ≡ take f es
    now_front =
        ap (take f) now-is ∙
        take_at (take f es) (take added (read t mode 0 (drop starts ys)) ++ drop k es) f (length-take-le f es (omega (arith, f_eq, first_old, ap length met.list)))

    pub now_start : (j : ℕ) → j ≤ f → start now j ≡ start es j
    now_start j h = same_start f es now now_front j h

    -- is ready for its lookbacks
    pub now_awaits : (p : ℕ) → p ≡ f - (at es f).lookback → Awaits now new f p
    now_awaits p p-is =
        let pointer : F - (at old F).lookback ≡ p = cc f_eq in
        record {
          alike = cc (now_done, put_alike t b e xs ys d got rest on n_is);
          given = cc (f_eq, now_done, put_begin t b e xs ys d got rest on n_is);
          own = batch_own t ys;
          fit = λ i. omega (arith, reach_within t ys i, batch_reach t ys i, met.room_after);
          passed = subst₂ (λ x y. Passed new x y) pointer (sym f_eq) (first_pointer t b e xs ys d);
        }

    -- and having been given them it is the list of the text after the edit
    module _ (after : List Entry) (behind tail : ℕ) (behind-is : behind ≡ f + added) (g : Given now new after f behind limit tail) where
      n_eq : behind ≡ n
      n_eq = omega (arith, behind-is, f_eq, got_count)

      same_changed : (i : ℕ) → changed now new behind behind i ≡ changed old new kept n i
      same_changed i =
          ap₂ (λ l m. changed l new m m i) now_done n_eq ∙
          ap (λ (c : Entry). not (eqb c.lookback (at new (n + pred i)).lookback)) (put_at t b e xs ys d got rest on n_is (pred i))

      given_done : after ≡ given_to g.stop new done
      given_done = cc now_done

      outcome : (after ≡ new) × (greatest (changed old new kept n) (length new - n) ≡ tail)
      outcome =
          elim (cases_lt g.stop (length new)) [
            | inr end ↦
                let all : g.stop ≡ length new = omega (arith, g.within, end) in
                (cc (given_done, put_given_all t b e xs ys d got rest on n_is), sym (tail_at (length new - n) (ap₂ (λ i j. i - j) all n_eq)))
            | inl before ↦
                let q = g.stop - n in
                let there : n + q ≡ g.stop = omega (arith, through before) in
                let far : limit ≤ start new (n + q) = omega (arith, g.enough before, ap (start new) there) in
                let more : F + added < length new = omega (arith, through before, got_count) in
                let reach-old = w.old_reach more in
                let o = reach-old.0 in
                let o-reached : (i : ℕ) → F ≤ i → i < kept → reach old i ≤ o = λ i h l. reach-old.1 i h (omega (arith, w.rejoined)) in
                let n-reached : (i : ℕ) → F ≤ i → i < n → reach new i ≤ limit = λ i h l. w.new_reach i h (omega (arith, got_count)) in
                let o-far : o ≤ start old (kept + q) = put_limit t b e xs ys d got rest on n_is o limit q reach-old.2 far in
                let rejoined-given = put_given t b e xs ys d got rest on n_is o limit q o-reached n-reached o-far far in (
                  cc (given_done, rejoined-given),
                  put_tail t b e xs ys d got rest on n_is o limit q o-reached n-reached o-far far (omega (arith, g.within, there)) ∙ sym (tail_at q (ap (λ j. g.stop - j) n_eq)),
                )
          ]
        where
          tail_at : (q : ℕ) → g.stop - behind ≡ q → tail ≡ greatest (changed old new kept n) q
          tail_at q same = g.tail_is ∙ greatest_same (changed now new behind behind) (changed old new kept n) (g.stop - behind) (λ i h l. same_changed i) ∙ ap (greatest (changed old new kept n)) same

          -- no entry that was read again starts behind what they reach
          through : g.stop < length new → n ≤ g.stop
          through h =
              elim (cases_lt g.stop n) [
                | inr c ↦ c
                | inl c ↦ absurd (omega (arith, g.enough h, w.new_reach g.stop (omega (arith, g.from, f_eq)) (omega (arith, got_count)), batch_reading t ys g.stop, each_reads t b ys g.stop (omega (arith, batch_count t ys))))
              ]

      pub brings : (count : ℕ) → count ≡ length now → (r : Report) → r ≡ record { first = f; out = k - f; «in» = added; tail = tail } → Brought t e xs ys count after r
      brings count count_is r r-is =
          let same : r ≡ report old new e =
          cc (f_eq, in_eq, report_is old new e F kept n tail refl refl n_is outcome.1) in
          record {
            count_is = cc (now_done, alike_length done new (put_alike t b e xs ys d got rest on n_is));
            list = outcome.0;
            report_is = same;
            covers = subst (λ (x : Report). Covers old new x) (sym same) (covers t b e xs ys d);
          }
        where
          in_eq : added ≡ n - F
          in_eq = omega (arith, got_count)

-- What no list of a text fails in: the first entry that is read again is there, and starts in the text; and there is room for all
module _ (t : Tables) (b : Sound t) (e : Edit) (xs ys : List ℕ) (es : List Entry) (room : ℕ) (met : Met t e xs ys es room) (f : ℕ) (f-is : f ≡ first es e.place) where
  same_first : f ≡ first (batch t xs) e.place
  same_first = f-is ∙ ap (λ l. first l e.place) met.list

  pub first_there : f < length es
  first_there = omega (arith, same_first, report_first t b e xs ys met.edited, batch_count t xs, ap length met.list)

  pub first_starts : start es f ≤ length ys
  first_starts =
      omega (arith, ap₂ start met.list same_first, batch_start t xs (first (batch t xs) e.place), fresh_from t b e xs ys met.edited, met.edited.filled)

  pub room_for : (added k limit : ℕ) → Walked t e xs ys added k limit → f + added + (length es - k) ≤ room
  room_for added k limit w =
      omega (
        arith,
        same_first,
        w.rejoin,
        w.rejoined,
        ap length met.list,
        met.room_after,
        batch_length t ys,
        batch_count t xs,
        batch_count t ys,
        kept_count e (read t 0 0 xs) (read t 0 0 ys) (first (batch t xs) e.place) (rejoined (batch t xs) (batch t ys) e) (rejoin (batch t xs) (batch t ys) e) (report_kept t b e xs ys met.edited),
        (report_kept t b e xs ys met.edited).old_to,
      )
