-- The walk of a correction, in the numbers that its loop keeps.
use Rattle.std.proofs.Common.{◌≡◌, ℕ, ◌+◌, ◌-◌, ◌^◌, ◌<◌, ◌≤◌, min, max, Bool, true, false, ◌&&◌, eqb, ltb, ◌⊎◌, List, [], ◌∷◌, ◌++◌, length, drop, sym, refl, ap, ◌∙◌, subst, subst₂, inl, inr, arith}
use Rattle.std.proofs.lemmas.List.{length_push}
use Rattle.std.proofs.lemmas.Bool.{both_ways, cases_lt, cases_eq, and_parts, and_from, ltb-true, eqb-true, lt-ltb, eq-eqb}
use Rattle.books.specs.Tables.{Tables}
use Rattle.books.specs.Sound.{Sound}
use Rattle.reading.specs.Reading.{Entry, entry, token, start, reach, batch}
use Rattle.reading.specs.Laws.{mode_before}
use Rattle.reading.specs.Report.{Edit, Edited, first, joins}
use Rattle.reading.proofs.Same.{batch_reach}
use Rattle.reading.proofs.Rejoin.{edited_length}
use Rattle.reading.proofs.Steps.{old_place, last_reach}
use Rattle.reading.proofs.Going.{Going, going_begins, going_early, going_apart, going_otherwise, going_more, going_joins, going_ends}
use Rattle.scanner.specs.Spots.{Fit}
use Rattle.scanner.specs.Scanned.{scanned}
use Rattle.scanner.proofs.Written.{reach_within}
use Rattle.correction.specs.Boundaries.{Passes}
use Rattle.correction.specs.Walks.{Met, Within, Walked}
use Rattle.correction.proofs.Runs.{scanned_token}

-- the test that the walk makes of an old entry
abbrev pub keeps : ℕ → ℕ → ℕ → ℕ → ℕ → ℕ → Bool
keeps k count starts place m mode = ltb k count && (eqb starts place && eqb m mode)

-- a walk's end by other names
pub walked_known : (t : Tables) (e : Edit) (xs ys : List ℕ) (added k limit added' k' limit' : ℕ) → added' ≡ added → k' ≡ k → limit' ≡ limit →
    Walked t e xs ys added k limit → Walked t e xs ys added' k' limit'
walked_known t e xs ys added k limit added' k' limit' a b c w =
    subst (λ n. Walked t e xs ys n k' limit') (sym a) (subst (λ n. Walked t e xs ys added n limit') (sym b) (subst (λ n. Walked t e xs ys added k n) (sym c) w))

module _ (t : Tables) (b : Sound t) (e : Edit) (xs ys : List ℕ) (es : List Entry) (room : ℕ) (small : room < 2 ^ 64) (met : Met t e xs ys es room) where
  abbrev old : List Entry
  old = batch t xs

  abbrev new : List Entry
  new = batch t ys

  abbrev f : ℕ
  f = first old e.place

  abbrev d : Edited e xs ys
  d = met.edited

  same_start : (i : ℕ) → start es i ≡ start old i
  same_start i = ap (λ l. start l i) met.list

  same_mode : (i : ℕ) → mode_before es i ≡ mode_before old i
  same_mode i = ap (λ l. mode_before l i) met.list

  same_reach : (i : ℕ) → reach es i ≡ reach old i
  same_reach i = ap (λ l. reach l i) met.list

  same_count : length es ≡ length old
  same_count = ap length met.list

  old_reaches : (i : ℕ) → reach old i ≤ length xs + 1
  old_reaches i = omega (arith, reach_within t xs i, batch_reach t xs i)

  -- the old list's sums fit
  pub met_fit : Fit es
  met_fit i = omega (arith, old_reaches i, same_reach i, met.room_before)

  -- and so do the old places
  pub met_place : (here : ℕ) → here ≤ length ys → old_place e here < 2 ^ 64
  met_place here h = omega (arith, d.within, d.filled, edited_length e xs ys d, met.room_before)

  -- It has read `added` entries, which reach no further than `limit`, and stands here in this mode; old entry k is next, which starts there and is
  -- read in that mode, and the old ones from the first on and before it reach no further than `passed`
  pub record Onward (added mode here k starts in_mode passed limit : ℕ) : Type 0 where
    pub got : List Entry
    pub going : Going t e xs ys got mode here k limit
    pub count : length got ≡ added
    pub stands : starts ≡ start old k
    pub read_in : in_mode ≡ mode_before old k
    pub within : Within old f k passed

  pub onward_begins : (n here starts mode passed limit : ℕ) → n ≡ first es e.place → here ≡ starts → starts ≡ start es n → mode ≡ mode_before es n → Onward 0 mode here n starts mode passed limit
  onward_begins n here starts mode passed limit is h s m =
      let same : f ≡ n = sym (is ∙ ap (λ l. first l e.place) met.list) in
      record {
        got = [];
        going = subst (λ k. Going t e xs ys [] mode here k limit) same (going_begins t b e xs ys d mode here limit (m ∙ same_mode n ∙ ap (mode_before old) (sym same)) (h ∙ s ∙ same_start n ∙ ap (start old) (sym same)));
        count = refl;
        stands = s ∙ same_start n;
        read_in = m ∙ same_mode n;
        within = λ i l r. absurd (omega arith);
      }

  module _ (added mode here k starts in_mode passed limit : ℕ) (o : Onward added mode here k starts in_mode passed limit) where
    pub onward_here : here ≤ length ys
    onward_here = o.going.walk.within

    -- old entries are passed up to where this place was
    pub onward_passes : (k' starts' in-mode' passed' place : ℕ) → Passes es k k' place passed passed' → place ≡ old_place e here → starts' ≡ start es k' → in-mode' ≡ mode_before es k' →
        Onward added mode here k' starts' in-mode' passed' limit
    onward_passes k' starts' in-mode' passed' place p is s m =
        let g = o.going in
        record {
          got = o.got;
          going = record {
            walk = g.walk;
            tried = g.tried;
            behind = λ i h. elim (cases_lt i k) [ inl c ↦ g.behind i c | inr c ↦ omega (arith, p.before i c h, same_start i) ];
            reached = g.reached;
          };
          count = o.count;
          stands = s ∙ same_start k';
          read_in = m ∙ same_mode k';
          within = λ i h l. elim (cases_lt i k) [ inl c ↦ omega (arith, o.within i h c, p.further) | inr c ↦ omega (arith, p.reading i c l, same_reach i) ];
        }

    -- what a turn begins with, by what its calls promise
    pub record Turned (k' starts' in-mode' passed' place : ℕ) : Type 0 where
      pub onward : Onward added mode here k' starts' in-mode' passed' limit
      pub place_is : place ≡ old_place e here
      pub to : k' < length es → place ≤ start es k'

    pub onward_turn : (k' starts' in-mode' passed' place : ℕ) → (old_place e here < 2 ^ 64 → place ≡ old_place e here) →
        (Fit es → (starts ≡ start es k) × (in_mode ≡ mode_before es k) → ((starts' ≡ start es k') × (in-mode' ≡ mode_before es k')) × Passes es k k' place passed passed') →
        Turned k' starts' in-mode' passed' place
    onward_turn k' starts' in-mode' passed' place is passes =
        let at : place ≡ old_place e here = is (met_place here onward_here) in
        let all = passes met_fit (o.stands ∙ sym (same_start k), o.read_in ∙ sym (same_mode k)) in
        record { onward = onward_passes k' starts' in-mode' passed' place all.1 at all.0.0 all.0.1; place_is = at; to = all.1.to }

    module _ (place behind : ℕ) (place_is : place ≡ old_place e here) (behind-is : behind ≡ min (e.place + e.inserted) (2 ^ 64 - 1)) where
      far_enough : behind ≡ e.place + e.inserted
      far_enough = omega (arith, d.filled, met.room_after)

      abbrev kept : Bool
      kept = keeps k (length es) starts place in_mode mode

      -- they meet here
      pub onward_joins : behind ≤ here → true ≡ kept → (moved n m reached : ℕ) → ((p : ℕ) → p ≤ passed → p + e.inserted < 2 ^ 64 + e.cut → p + e.inserted ≤ moved + e.cut) →
          n ≡ added → m ≡ k → reached ≡ max moved limit → Walked t e xs ys n m reached
      onward_joins far here-is moved n m reached lies n-is m-is most =
          let parts = and_parts (ltb k (length es)) (eqb starts place && eqb in_mode mode) (sym here-is) in
          let more = and_parts (eqb starts place) (eqb in_mode mode) parts.1 in
          let there : k < length old = omega (arith, ltb-true k (length es) parts.0, same_count) in
          let meet = going_joins t b e xs ys d o.got mode here k limit o.going (omega (arith, far_enough)) there (sym o.stands ∙ eqb-true starts place more.0 ∙ place_is) (sym o.read_in ∙ eqb-true in_mode mode more.1) in
          let bound = min passed (length xs + 1) in
          let fits : bound + e.inserted < 2 ^ 64 + e.cut = omega (arith, edited_length e xs ys d, met.room_after) in
          record {
            rejoin = meet.0 ∙ ap (λ i. f + i) (o.count ∙ sym n-is);
            rejoined = meet.1 ∙ sym m-is;
            new_reach = λ i h l. omega (arith, o.going.reached i h (omega (arith, o.count)));
            old_reach = λ _. (bound, (λ i h l. omega (arith, o.within i h (omega arith), old_reaches i)), omega (arith, lies bound (omega arith) fits));
          }

      -- or not
      module _ (to : k < length es → place ≤ start es k) where
        pub onward_apart : (here < behind) ⊎ (false ≡ kept) → joins old new e (f + length o.got) ≡ false
        onward_apart (inl early) = going_early t b e xs ys d o.got mode here k limit o.going (omega (arith, far_enough))
        onward_apart (inr no_one) =
            elim (cases_lt here (e.place + e.inserted)) [
              | inl early ↦ going_early t b e xs ys d o.got mode here k limit o.going early
              | inr far ↦ elim (cases_lt k (length es)) [
                | inr past ↦ going_apart t b e xs ys d o.got mode here k limit o.going far (λ h. absurd (omega (arith, same_count)))
                | inl there ↦ elim (cases_eq starts place) [
                  | inr other ↦ going_apart t b e xs ys d o.got mode here k limit o.going far (λ h. omega (arith, to there, same_start k, o.stands))
                  | inl at ↦ going_otherwise t b e xs ys d o.got mode here k limit o.going far (omega (arith, same_count)) (sym o.stands ∙ at ∙ place_is) (λ same. both_ways kept (sym no_one) (and_from _ _ (lt-ltb k (length es) there) (and_from _ _ (eq-eqb starts place at) (eq-eqb in_mode mode (o.read_in ∙ same)))))
                ]
              ]
            ]

    -- one entry more
    pub onward_more : joins old new e (f + length o.got) ≡ false → here < length ys → (x : Entry) (spot : ℕ) → spot ≡ here → x ≡ scanned t mode (drop spot ys) →
        (mode' here' limit' : ℕ) → mode' ≡ x.mode → here' ≡ here + x.length → limit' ≡ max limit (here + x.reading) → Onward (added + 1) mode' here' k starts in_mode passed limit'
    onward_more apart more x spot same is mode' here' limit' m h l =
        let tok = token t mode (drop here ys) in
        let x-is : tok ≡ x = sym (is ∙ ap (λ p. scanned t mode (drop p ys)) same ∙ scanned_token t mode here ys more) in
        let next = going_more t b e xs ys d o.got mode here k limit o.going apart more limit' (omega arith) (omega (arith, ap (λ c. c.reading) x-is)) in
        record {
          got = o.got ++ tok ∷ [];
          going = subst₂ (λ i n. Going t e xs ys (o.got ++ tok ∷ []) i n k limit') (sym m) (sym h) (subst (λ (y : Entry). Going t e xs ys (o.got ++ tok ∷ []) y.mode (here + y.length) k limit') x-is next);
          count = length_push o.got tok ∙ ap (λ n. n + 1) o.count;
          stands = o.stands;
          read_in = o.read_in;
          within = o.within;
        }

    -- the end token is read, and they never meet
    pub onward_ends : joins old new e (f + length o.got) ≡ false → length ys ≤ here → (n m reached : ℕ) → n ≡ added + 1 → m ≡ length es → reached ≡ max limit (here + 1) → Walked t e xs ys n m reached
    onward_ends apart end n m reached n-is m-is most =
        let ends = going_ends t b e xs ys d o.got mode here k limit o.going apart end in
        let count : length (o.got ++ entry 1 0 1 mode 0 ∷ []) ≡ n = length_push o.got (entry 1 0 1 mode 0) ∙ ap (λ i. i + 1) o.count ∙ sym n-is in
        record {
          rejoin = ends.0 ∙ ap (λ i. f + i) count;
          rejoined = ends.1 ∙ sym same_count ∙ sym m-is;
          new_reach = λ i h l. elim (cases_lt i (f + length o.got)) [
            | inl c ↦ omega (arith, o.going.reached i h c)
            | inr c ↦ let here-is : i ≡ f + length o.got = omega (arith, o.count) in omega (arith, ap (reach new) here-is, last_reach t b e xs ys d o.got mode here o.going.walk end)
          ];
          old_reach = λ h. absurd (omega (arith, ends.2, count));
        }

  module _ (added mode here k starts in_mode passed limit : ℕ) (o : Onward added mode here k starts in_mode passed limit)
      (k' starts' in-mode' passed' place behind : ℕ) (place_is : old_place e here < 2 ^ 64 → place ≡ old_place e here)
      (passes : Fit es → (starts ≡ start es k) × (in_mode ≡ mode_before es k) → ((starts' ≡ start es k') × (in-mode' ≡ mode_before es k')) × Passes es k k' place passed passed')
      (behind-is : behind ≡ min (e.place + e.inserted) (2 ^ 64 - 1)) where
    turn : Turned added mode here k starts in_mode passed limit o k' starts' in-mode' passed' place
    turn = onward_turn added mode here k starts in_mode passed limit o k' starts' in-mode' passed' place place_is passes

    pub turn_joins : behind ≤ here → true ≡ keeps k' (length es) starts' place in-mode' mode → (moved n m reached : ℕ) →
        ((p : ℕ) → p ≤ passed' → p + e.inserted < 2 ^ 64 + e.cut → p + e.inserted ≤ moved + e.cut) → n ≡ added → m ≡ k' → reached ≡ max moved limit → Walked t e xs ys n m reached
    turn_joins = onward_joins added mode here k' starts' in-mode' passed' limit turn.onward place behind turn.place_is behind-is

    module _ (none : (here < behind) ⊎ (false ≡ keeps k' (length es) starts' place in-mode' mode)) where
      apart : joins old new e (f + length turn.onward.got) ≡ false
      apart = onward_apart added mode here k' starts' in-mode' passed' limit turn.onward place behind turn.place_is behind-is turn.to none

      pub turn_ends : length ys ≤ here → (n m reached : ℕ) → n ≡ added + 1 → m ≡ length es → reached ≡ max limit (here + 1) → Walked t e xs ys n m reached
      turn_ends = onward_ends added mode here k' starts' in-mode' passed' limit turn.onward apart

      pub turn_more : here < length ys → (x : Entry) (spot : ℕ) → spot ≡ here → x ≡ scanned t mode (drop spot ys) →
          (mode' here' limit' : ℕ) → mode' ≡ x.mode → here' ≡ here + x.length → limit' ≡ max limit (here + x.reading) → Onward (added + 1) mode' here' k' starts' in-mode' passed' limit'
      turn_more = onward_more added mode here k' starts' in-mode' passed' limit turn.onward apart
