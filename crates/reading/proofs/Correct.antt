-- An old list corrected in place: what was read again put in for what gave way, and the lookbacks given anew as far as they change.
use Rattle.std.proofs.Common.{◌≡◌, ℕ, ◌+◌, ◌-◌, ◌<◌, ◌≤◌, true, false, List, ◌++◌, length, take, drop, sym, refl, ap, ◌∙◌, subst, ap₂, arith}
use Rattle.std.proofs.lemmas.List.{ext_get_or, take_at, length-take-le, get_or-append-add, get_or-drop}
use Rattle.books.specs.Tables.{Tables}
use Rattle.books.specs.Sound.{Sound}
use Rattle.reading.specs.Reading.{Entry, greatest, read, start, none, at, lookback, batch}
use Rattle.reading.specs.Report.{Edit, Edited, report, first, rejoin, rejoined, changed}
use Rattle.reading.proofs.Lookback.{Passed, lookback_first}
use Rattle.reading.proofs.Lists.{start_up}
use Rattle.reading.proofs.Split.{at_take, same_lookback}
use Rattle.reading.proofs.Only.{bare}
use Rattle.reading.proofs.Same.{batch_count, batch_lookback, batch_start}
use Rattle.reading.proofs.Rejoin.{Kept, report_kept}
use Rattle.reading.proofs.Tail.{Reached, kept_lookback, kept_level, changed_yes, changed_no, tail_stops}
use Rattle.reading.proofs.Covers.{kept_count, before_entry}
use Rattle.reading.proofs.Steps.{fresh_of, spliced}
use Rattle.reading.proofs.Alike.{Alike, bare_batch, alike_append, alike_take, alike_drop, alike_start, alike_reach, alike_lookback, alike_from, given_to, given_begin, given_end}

-- the pointer of an entry's lookback has passed the entries before it
pub passed_own : (es : List Entry) (j : ℕ) → Passed es (j - lookback es j) j
passed_own es j i h = lookback_first es i j (omega arith)

pub passed_alike : (es fs : List Entry) → Alike es fs → (p j : ℕ) → Passed es p j → Passed fs p j
passed_alike es fs a p j passed i h = omega (arith, passed i h, alike_reach es fs a i, alike_start es fs a j)

pub reached_alike : (es fs : List Entry) → Alike es fs → (f k limit : ℕ) → Reached es f k limit → Reached fs f k limit
reached_alike es fs a f k limit reached i h l = omega (arith, reached i h l, alike_reach es fs a i)

-- a batch reading's entries have their own lookbacks
pub batch_own : (t : Tables) (xs : List ℕ) (j : ℕ) → j < length (batch t xs) → (at (batch t xs) j).lookback ≡ lookback (batch t xs) j
batch_own t xs j h = batch_lookback t xs j (omega (arith, batch_count t xs)) ∙ sym (alike_lookback (batch t xs) (read t 0 0 xs) (bare_batch t xs) j)

-- a report, from its parts
pub report_is : (old new : List Entry) (e : Edit) (f k n tail : ℕ) → first old e.place ≡ f → rejoined old new e ≡ k → rejoin old new e ≡ n →
    greatest (changed old new k n) (length new - n) ≡ tail → report old new e ≡ record { first = f; out = k - f; «in» = n - f; tail = tail }
unfolding report
report_is old new e f k n tail a c d g =
    let same : greatest (changed old new (rejoined old new e) (rejoin old new e)) (length new - rejoin old new e) ≡ tail = ap₂ (λ o j. greatest (changed old new o j) (length new - j)) c d ∙ g in
    λ i. record { first = a i; out = c i - a i; «in» = d i - a i; tail = same i }

module _ (t : Tables) (b : Sound t) (e : Edit) (xs ys : List ℕ) (d : Edited e xs ys) where
  abbrev es : List Entry
  es = read t 0 0 xs

  abbrev fs : List Entry
  fs = read t 0 0 ys

  abbrev old : List Entry
  old = batch t xs

  abbrev new : List Entry
  new = batch t ys

  abbrev f : ℕ
  f = first old e.place

  abbrev k : ℕ
  k = rejoined old new e

  kept : Kept e es fs f k (rejoin old new e)
  kept = report_kept t b e xs ys d

  old_alike : Alike old es
  old_alike = bare_batch t xs

  new_alike : Alike new fs
  new_alike = bare_batch t ys

  -- the first entry that is read again has the old one's lookback, and a pointer for the lookbacks may begin at what it leads to
  pub first_lookback : (at new f).lookback ≡ (at old f).lookback
  first_lookback = batch_lookback t ys f kept.first_new ∙ same_lookback f es fs kept.front f (omega arith) ∙ sym (batch_lookback t xs f kept.first_old)

  pub first_pointer : Passed new (f - (at old f).lookback) f
  first_pointer =
      let own : lookback new f ≡ (at old f).lookback = sym (batch_own t ys f (omega (arith, batch_count t ys, kept.first_new))) ∙ first_lookback in
      subst (λ p. Passed new (f - p) f) own (passed_own new f)

  -- the entries before it are the same
  pub new_front : take f new ≡ take f old
  unfolding batch
  new_front =
      let old-length : length (take f old) ≡ f = length-take-le f old (omega (arith, batch_count t xs, kept.first_old)) in
      let new-length : length (take f new) ≡ f = length-take-le f new (omega (arith, batch_count t ys, kept.first_new)) in
      ext_get_or
      none
      (take f new)
      (take f old)
      (new-length ∙ sym old-length)
      (λ i h. at_take f new i (omega arith) ∙ before_entry e es fs f k (rejoin old new e) kept i (omega arith) ∙ sym (at_take f old i (omega arith)))

  -- the old list with the entries got in place of those that give way
  module _ (got rest : List Entry) (on : got ++ rest ≡ fresh_of t e xs ys) (n_is : rejoin old new e ≡ f + length got) where
    abbrev put : List Entry
    put = take f old ++ (got ++ drop k old)

    abbrev n : ℕ
    n = f + length got

    front : length (take f old) ≡ f
    front = length-take-le f old (omega (arith, batch_count t xs, kept.first_old))

    -- it is the new list but for the lookbacks
    pub put_alike : Alike put new
    put_alike =
        alike_append (take f old) (got ++ drop k old) (take f es) (got ++ drop k es) (alike_take f old es old_alike) (alike_append got (drop k old) got (drop k es) refl (alike_drop k old es old_alike)) ∙
        ap (λ l. bare l) (sym (spliced t b e xs ys d got rest on n_is)) ∙
        sym new_alike

    -- whose lookbacks before the first entry that is read again stand already, so that they are given from there on
    pub put_begin : given_to f new put ≡ put
    put_begin = given_begin f new put (take_at (take f old) (got ++ drop k old) f front ∙ sym new_front)

    pub put_at : (q : ℕ) → at put (n + q) ≡ at old (k + q)
    put_at q =
        let there : f + length got + q ≡ length (take f old) + (length got + q) = omega (arith, front) in
        ap (at put) there ∙ get_or-append-add (take f old) (got ++ drop k old) (length got + q) none ∙ get_or-append-add got (drop k old) q none ∙ get_or-drop k old q none

    same_kept : Kept e es fs f k n
    same_kept = subst (λ i. Kept e es fs f k i) n_is kept

    -- from the kept entry that starts at or behind all that the entries which gave way reach, and those read again, nothing changes
    module _ (o w q : ℕ) (o-reached : Reached old f k o) (w-reached : Reached new f n w) (o-far : o ≤ start old (k + q)) (w-far : w ≤ start new (n + q)) where
      stays : (i : ℕ) → q ≤ i → n + i < length new → (at new (n + i)).lookback ≡ (at old (k + i)).lookback
      stays i h l =
          batch_lookback t ys (n + i) (omega (arith, batch_count t ys)) ∙
          kept_lookback e es fs f k n same_kept o w i (reached_alike old es old_alike f k o o-reached) (reached_alike new fs new_alike f n w w-reached) (omega (arith, o-far, alike_start old es old_alike (k + i), alike_start old es old_alike (k + q), start_up es (k + q) (k + i) (omega arith))) (omega (arith, w-far, alike_start new fs new_alike (n + i), alike_start new fs new_alike (n + q), start_up fs (n + q) (n + i) (omega arith))) ∙
          sym (batch_lookback t xs (k + i) (omega (arith, batch_count t ys, kept_count e es fs f k n same_kept)))

      pub put_stays : drop (n + q) put ≡ drop (n + q) new
      put_stays = alike_from put new put_alike (n + q) (λ j h l. from j (j - n) (omega arith) (omega arith) l)
        where
          from : (j i : ℕ) → n + i ≡ j → q ≤ i → j < length new → (at put j).lookback ≡ (at new j).lookback
          from j i s h l = subst (λ x. (at put x).lookback ≡ (at new x).lookback) s (ap (λ c. c.lookback) (put_at i) ∙ sym (stays i h (omega arith)))

      -- so the lookbacks are given through there, and the list is the new one
      pub put_given : given_to (n + q) new put ≡ new
      put_given = given_end (n + q) new put put_stays

      -- and the tail is the greatest changed among the first q kept ones
      pub put_tail : n + q ≤ length new → greatest (changed old new k n) (length new - n) ≡ greatest (changed old new k n) q
      put_tail h = tail_stops old new k n q (length new - n) (omega arith) (λ i a l. stays i a (omega arith))

    -- the two limits as one, in new places
    pub put_level : (q : ℕ) → start old (k + q) + e.inserted ≡ start new (n + q) + e.cut
    put_level q = omega (arith, kept_level e es fs f k n same_kept q, batch_start t xs (k + q), batch_start t ys (n + q))

    pub put_limit : (o limit q : ℕ) → o + e.inserted ≤ limit + e.cut → limit ≤ start new (n + q) → o ≤ start old (k + q)
    put_limit o limit q h l = omega (arith, put_level q)

    -- or through the end
    pub put_given_all : given_to (length new) new put ≡ new
    put_given_all = given_end (length new) new put (alike_from put new put_alike (length new) (λ j h l. absurd (omega arith)))

    -- whether kept entry q changes, by what it has before its lookback is given
    pub put_changed : (q : ℕ) → ((at new (n + q)).lookback ≡ (at put (n + q)).lookback → ⊥) → changed old new k n (q + 1) ≡ true
    put_changed q h = changed_yes old new k n q (λ s. h (s ∙ sym (ap (λ c. c.lookback) (put_at q))))

    pub put_unchanged : (q : ℕ) → (at new (n + q)).lookback ≡ (at put (n + q)).lookback → changed old new k n (q + 1) ≡ false
    put_unchanged q h = changed_no old new k n q (h ∙ ap (λ c. c.lookback) (put_at q))
