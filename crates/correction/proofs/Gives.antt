-- The lookbacks given anew, in the numbers that the loop keeps.
use Rattle.std.proofs.Common.{◌≡◌, ℕ, ◌+◌, ◌-◌, ◌^◌, ◌<◌, ◌≤◌, min, true, false, ◌⊎◌, List, map, length, set, sym, ap, ap₂, ◌∙◌, subst, inl, inr, arith}
use Rattle.std.proofs.lemmas.Bool.{cases_lt}
use Rattle.reading.specs.Reading.{Entry, start, at, reach, with_lookback, greatest}
use Rattle.reading.specs.Report.{changed}
use Rattle.reading.proofs.Tail.{greatest_more, greatest_less, changed_yes, changed_no}
use Rattle.reading.proofs.Alike.{alike_start, alike_reach, alike_extent}
use Rattle.reading.proofs.Giving.{Giving, giving_begins, giving_alike, giving_length, giving_at, giving_lookback, giving_more}
use Rattle.scanner.specs.Spots.{Passed, Fit, ReadsStart}
use Rattle.correction.specs.Lookbacks.{Awaits, Given}
use Rattle.scanner.proofs.Starts.{sum_start}

pub reads_start : (es : List Entry) (p j q : ℕ) → q ≡ p → p ≤ j → Passed es p j → (p ≡ j) ⊎ (start es j < reach es p) → ReadsStart es q j
reads_start es p j q e to passed reads = subst (λ i. ReadsStart es i j) (sym e) (record { to = to; passed = passed; reads = reads })

module _ (put new : List Entry) (kept : ℕ) where
  -- The entries before number i have new's lookbacks, and the list is now this; entry i starts here, and a pointer at entry p, which starts there,
  -- is ready for it; the last of them that had another is counted
  pub record Turning (now : List Entry) (i here p there last : ℕ) : Type 0 where
    pub giving : Giving new put now i p
    pub starts : here ≡ start new i
    pub stands : there ≡ start new p
    pub up_to : last ≤ i
    pub tail_is : last - kept ≡ greatest (changed put new kept kept) (i - kept)

  module _ (first p : ℕ) (a : Awaits put new first p) where
    pub turning_begins : (i here : ℕ) → i ≡ first → p ≤ first → here ≡ start put first → (there : ℕ) → there ≡ start put p → first ≤ kept → Turning put i here p there 0
    turning_begins i here e le s there r k =
        let none : i - kept ≡ 0 = omega arith in
        let zero : 0 - kept ≡ 0 = omega arith in
        record {
          giving = subst (λ j. Giving new put put j p) (sym e) (giving_begins new put a.alike first p a.given le a.passed);
          starts = s ∙ alike_start put new a.alike first ∙ ap (start new) (sym e);
          stands = r ∙ alike_start put new a.alike p;
          up_to = omega arith;
          tail_is = zero ∙ ap (λ n. greatest (changed put new kept kept) n) (sym none);
        }

    module _ (now : List Entry) (i here q there last : ℕ) (g : Turning now i here q there last) where
      alike_now : map (with_lookback 0) now ≡ map (with_lookback 0) new
      alike_now = giving_alike new put a.alike now i q g.giving

      -- what the pointer's step asks for, at the list as it is now
      pub turning_fit : Fit now
      turning_fit j = omega (arith, a.fit j, alike_reach now new alike_now j)

      pub turning_starts : here ≡ start now i
      turning_starts = g.starts ∙ sym (alike_start now new alike_now i)

      pub turning_stands : there ≡ start now q
      turning_stands = g.stands ∙ sym (alike_start now new alike_now q)

      -- the pointer has come to entry r, and the next entry is given its lookback
      module _ (more : i < length new) (r there' : ℕ) (reads : ReadsStart now r i) (there-is : there' ≡ start now r) (here' long : ℕ) (long-is : (at now i).length ≡ long) (here-is : here' ≡ min (here + long) (2 ^ 64 - 1)) where
        at_r : Giving new put now i r
        at_r = record { so_far = g.giving.so_far; to = reads.to; passed = reads.passed }

        is : (at new i).lookback ≡ i - r
        is = giving_lookback new put a.alike now i r at_r reads.reads a.own more

        was : (at now i).lookback ≡ (at put i).lookback
        was = ap (λ e. e.lookback) (giving_at new put a.alike now i r at_r i (omega arith) (omega arith))

        starts_next : here' ≡ start new (i + 1)
        starts_next = sum_start new a.fit i here g.starts long here' (sym (alike_extent now new alike_now i) ∙ long-is) here-is

        tail_next : (last' : ℕ) → (((at now i).lookback ≡ i - r) × (last' ≡ last)) ⊎ (((at now i).lookback ≡ i - r → ⊥) × (last' ≡ i + 1)) → last' - kept ≡ greatest (changed put new kept kept) (i + 1 - kept)
        tail_next last' way =
            elim (cases_lt i kept) [
              | inl before ↦
                  let none : i + 1 - kept ≡ 0 = omega arith in
                  let zero : last' - kept ≡ 0 = elim way [ inl w ↦ omega (arith, g.up_to, w.1) | inr w ↦ omega (arith, w.1) ] in
                  zero ∙ ap (λ n. greatest (changed put new kept kept) n) (sym none)
              | inr behind ↦
                  let one : i + 1 - kept ≡ i - kept + 1 = omega arith in
                  let there : kept + (i - kept) ≡ i = omega arith in
                  let back : (es : List Entry) → (at es (kept + (i - kept))).lookback ≡ (at es i).lookback = λ es. ap (λ n. (at es n).lookback) there in
                  elim way [
                    | inl w ↦
                        let same : changed put new kept kept (i - kept + 1) ≡ false = changed_no put new kept kept (i - kept) (back new ∙ is ∙ sym w.0 ∙ was ∙ sym (back put)) in
                        ap (λ n. n - kept) w.1 ∙ g.tail_is ∙ sym (greatest_less (changed put new kept kept) (i - kept) same) ∙ ap (λ n. greatest (changed put new kept kept) n) (sym one)
                    | inr w ↦
                        let other : changed put new kept kept (i - kept + 1) ≡ true = changed_yes put new kept kept (i - kept) (λ s. w.0 (was ∙ sym (back put) ∙ sym s ∙ back new ∙ is)) in
                        ap (λ n. n - kept) w.1 ∙ one ∙ sym (greatest_more (changed put new kept kept) (i - kept) other) ∙ ap (λ n. greatest (changed put new kept kept) n) (sym one)
                  ]
            ]

        pub turning_more : (last' : ℕ) → (((at now i).lookback ≡ i - r) × (last' ≡ last)) ⊎ (((at now i).lookback ≡ i - r → ⊥) × (last' ≡ i + 1)) →
            Turning (set now i (with_lookback (i - r) (at now i))) (i + 1) here' r there' last'
        turning_more last' way =
            record {
              giving = giving_more new put a.alike now i r at_r reads.reads a.own more;
              starts = starts_next;
              stands = there-is ∙ alike_start now new alike_now r;
              up_to = elim way [ inl w ↦ omega (arith, g.up_to, w.1) | inr w ↦ omega (arith, w.1) ];
              tail_is = tail_next last' way;
            }

      -- the end
      pub turning_ends : (limit begin : ℕ) → begin ≤ i → i ≤ length new → (i < length new → limit ≤ here) → (tail : ℕ) → tail ≡ last - kept → Given put new now begin kept limit tail
      turning_ends limit begin from within enough tail is =
          record {
            stop = i;
            from = from;
            within = within;
            after_is = g.giving.so_far;
            enough = λ h. omega (arith, enough h, g.starts);
            tail_is = is ∙ g.tail_is;
          }

-- one turn: x is what was read of the entry, `back` is its new lookback, and `spot` is another name of its number
pub turning_written : (put new : List Entry) (kept first p : ℕ) → Awaits put new first p → (now : List Entry) (i here q there last : ℕ) → Turning put new kept now i here q there last → i < length now →
    (spot r there' : ℕ) → spot ≡ i → (Fit now → there ≡ start now q → here ≡ start now spot → Passed now q spot → (there' ≡ start now r) × ReadsStart now r spot) →
    (x : Entry) → at now i ≡ x → (here' back : ℕ) → here' ≡ min (here + x.length) (2 ^ 64 - 1) → back ≡ i - r →
    (last' : ℕ) → ((x.lookback ≡ back) × (last' ≡ last)) ⊎ ((x.lookback ≡ back → ⊥) × (last' ≡ i + 1)) →
    Turning put new kept (set now i (with_lookback back x)) (i + 1) here' r there' last'
turning_written put new kept first p a now i here q there last g more spot r there' spot_is follows x is here' back here-is back-is last' way =
    let fit : Fit now = turning_fit put new kept first p a now i here q there last g in
    let more-new : i < length new = omega (arith, giving_length new put a.alike now i q g.giving) in
    let starts : here ≡ start now spot = turning_starts put new kept first p a now i here q there last g ∙ ap (start now) (sym spot_is) in
    let passed : Passed now q spot = λ j h. omega (arith, g.giving.passed j h, ap (start now) spot_is) in
    let came = follows fit (turning_stands put new kept first p a now i here q there last g) starts passed in
    let reads : ReadsStart now r i = subst (λ n. ReadsStart now r n) spot_is came.1 in
    let was : (at now i).lookback ≡ x.lookback = ap (λ e. e.lookback) is in
    let written : set now i (with_lookback back x) ≡ set now i (with_lookback (i - r) (at now i)) = ap₂ (λ n e. set now i (with_lookback n e)) back-is (sym is) in
    subst (λ (es : List Entry). Turning put new kept es (i + 1) here' r there' last') (sym written)
    (turning_more put new kept first p a now i here q there last g more-new r there' reads came.0 here' x.length (ap (λ e. e.length) is) here-is last'
    (elim way [ inl w ↦ inl (was ∙ w.0 ∙ back-is, w.1) | inr w ↦ inr ((λ s. w.0 (sym was ∙ s ∙ sym back-is)), w.1) ]))
