-- A walk that reads a text again from an old entry on, beside a pointer into the old entries, and finds where the two rejoin.
use Rattle.std.proofs.Common.{◌≡◌, ℕ, ◌+◌, ◌-◌, ◌<◌, ◌≤◌, Bool, true, false, ◌&&◌, eqb, ltb, leb, List, [], ◌∷◌, ◌++◌, length, take, drop, sym, refl, ap, ◌∙◌, subst, ap₂, inl, inr, add-zero, arith}
use Rattle.std.proofs.lemmas.List.{length-append, length_push, length-take-le, length-drop, take-take}
use Rattle.std.proofs.lemmas.Bool.{cases_lt, cases_eq, and_from, and_left, and_right, cond-true, cond-false, le-leb, lt-leb, lt-ltb, le-ltb, eq-eqb, ne_eqb}
use Rattle.books.specs.Tables.{Tables}
use Rattle.books.specs.Sound.{Sound}
use Rattle.reading.specs.Reading.{Entry, entry, token, read, start, batch}
use Rattle.reading.specs.Laws.{mode_before, total_length}
use Rattle.reading.specs.Report.{Edit, Edited, first, starting, old_at, joins, rejoin, rejoined}
use Rattle.reading.proofs.Least.{least_is}
use Rattle.reading.proofs.Token.{token_within}
use Rattle.reading.proofs.Lists.{read_push, read_last, read_some, mode_from, mode_from_before, start_up, start_end, total_push}
use Rattle.reading.proofs.Split.{start_zero, start_add, mode_add, start_take, same_mode}
use Rattle.reading.proofs.Each.{each_reads, starts_before}
use Rattle.reading.proofs.Prefix.{prefix_on}
use Rattle.reading.proofs.Same.{batch_count, batch_start, batch_mode_before}
use Rattle.reading.proofs.Rejoin.{report_first, report_before}

-- a pointer at k over the old entries has passed only such as start before q
abbrev pub Behind : List Entry → ℕ → ℕ → Type 0
Behind old k q = (i : ℕ) → i < k → start old i < q

pub behind_none : (old : List Entry) (q : ℕ) → Behind old 0 q
behind_none old q i h = absurd (omega arith)

-- it passes one entry more
pub behind_more : (old : List Entry) (k q : ℕ) → Behind old k q → start old k < q → Behind old (k + 1) q
behind_more old k q behind h i l = elim (cases_eq i k) [ inl e ↦ subst (λ n. start old n < q) (sym e) h | inr e ↦ behind i (omega arith) ]

-- what it has passed for one place it has passed for every later one
pub behind_later : (old : List Entry) (k q r : ℕ) → q ≤ r → Behind old k q → Behind old k r
behind_later old k q r h behind i l = omega (arith, behind i l)

-- it stands at the entry that starts at q
pub starting_is : (old : List Entry) (k q : ℕ) → Behind old k q → k < length old → start old k ≡ q → starting old q ≡ k
starting_is old k q behind h e =
    least_is (λ i. eqb (start old i) q) (length old) k (omega arith) (λ l. eq-eqb (start old k) q e) (λ i l. ne_eqb (start old i) q (λ s. omega (arith, behind i l)))

-- or past q, or at the end: no entry starts at q
pub starting_none : (old : List Entry) (k q : ℕ) → Behind old k q → (k < length old → q < start old k) → starting old q ≡ length old
starting_none old k q behind past =
    least_is (λ i. eqb (start old i) q) (length old) (length old) (omega arith) (λ l. absurd (omega arith)) (λ i l. ne_eqb (start old i) q (apart i l))
  where
    apart : (i : ℕ) → i < length old → start old i ≡ q → ⊥
    apart i l e = elim (cases_lt i k) [ inl c ↦ omega (arith, behind i c) | inr c ↦ omega (arith, start_up old k i c, past (omega arith)) ]

-- the test at a new entry, by the pointer; place is where the new entry starts
module _ (old new : List Entry) (e : Edit) (j : ℕ) where
  -- it starts before the end of what was inserted
  pub joins_early : start new j < e.place + e.inserted → joins old new e j ≡ false
  joins_early h = and_left (leb (e.place + e.inserted) (start new j)) _ (lt-leb (e.place + e.inserted) (start new j) h)

  module _ (k q : ℕ) (behind : Behind old k q) (far : e.place + e.inserted ≤ start new j) (level : q + e.inserted ≡ start new j + e.cut) where
    place_is : (start new j + e.cut) - e.inserted ≡ q
    place_is = omega arith

    pub old_at_is : k < length old → start old k ≡ q → old_at old new e j ≡ k
    old_at_is h s = ap (starting old) place_is ∙ starting_is old k q behind h s

    pub old_at_none : (k < length old → q < start old k) → old_at old new e j ≡ length old
    old_at_none past = ap (starting old) place_is ∙ starting_none old k q behind past

    abbrev by : ℕ → Bool
    by i = ltb i (length old) && eqb (mode_before old i) (mode_before new j)

    -- an old entry starts there too, and in the same mode
    pub joins_yes : k < length old → start old k ≡ q → mode_before old k ≡ mode_before new j → joins old new e j ≡ true
    joins_yes h s m =
        and_from
        (leb (e.place + e.inserted) (start new j))
        (by (old_at old new e j))
        (le-leb (e.place + e.inserted) (start new j) far)
        (ap by (old_at_is h s) ∙ and_from (ltb k (length old)) (eqb (mode_before old k) (mode_before new j)) (lt-ltb k (length old) h) (eq-eqb (mode_before old k) (mode_before new j) m))

    -- in another mode
    pub joins_otherwise : k < length old → start old k ≡ q → (mode_before old k ≡ mode_before new j → ⊥) → joins old new e j ≡ false
    joins_otherwise h s m =
        and_right
        (leb (e.place + e.inserted) (start new j))
        (by (old_at old new e j))
        (ap by (old_at_is h s) ∙ and_right (ltb k (length old)) (eqb (mode_before old k) (mode_before new j)) (ne_eqb (mode_before old k) (mode_before new j) m))

    -- none does
    pub joins_apart : (k < length old → q < start old k) → joins old new e j ≡ false
    joins_apart past =
        and_right
        (leb (e.place + e.inserted) (start new j))
        (by (old_at old new e j))
        (ap by (old_at_none past) ∙ and_left (ltb (length old) (length old)) (eqb (mode_before old (length old)) (mode_before new j)) (le-ltb (length old) (length old) (omega arith)))

-- the first j new entries from first on have been tried, and none joins
abbrev pub Tried : List Entry → List Entry → Edit → ℕ → Type 0
Tried old new e j = (i : ℕ) → i < j → joins old new e (first old e.place + i) ≡ false

pub tried_none : (old new : List Entry) (e : Edit) → Tried old new e 0
tried_none old new e i h = absurd (omega arith)

pub tried_more : (old new : List Entry) (e : Edit) (j : ℕ) → Tried old new e j → joins old new e (first old e.place + j) ≡ false → Tried old new e (j + 1)
tried_more old new e j tried h i l =
    elim (cases_eq i j) [ inl q ↦ ap (λ n. joins old new e (first old e.place + n)) q ∙ h | inr q ↦ tried i (omega arith) ]

-- the next one does
pub rejoin_is : (old new : List Entry) (e : Edit) (j : ℕ) → Tried old new e j → first old e.place + j < length new → joins old new e (first old e.place + j) ≡ true →
    rejoin old new e ≡ first old e.place + j
rejoin_is old new e j tried h y =
    let f = first old e.place in
    ap (λ n. f + n) (least_is (λ i. joins old new e (f + i)) (length new - f) j (omega arith) (λ l. y) tried)

pub rejoined_is : (old new : List Entry) (e : Edit) (n k : ℕ) → rejoin old new e ≡ n → n < length new → old_at old new e n ≡ k → rejoined old new e ≡ k
rejoined_is old new e n k r h a =
    cond-true (ltb (rejoin old new e) (length new)) (old_at old new e (rejoin old new e)) (length old) (lt-ltb (rejoin old new e) (length new) (omega arith)) ∙ ap (old_at old new e) r ∙ a

-- none does, to the end
pub rejoin_never : (old new : List Entry) (e : Edit) (j : ℕ) → Tried old new e j → first old e.place + j ≡ length new → rejoin old new e ≡ length new
rejoin_never old new e j tried h =
    let f = first old e.place in
    ap (λ n. f + n) (least_is (λ i. joins old new e (f + i)) (length new - f) j (omega arith) (λ l. absurd (omega arith)) tried) ∙ h

pub rejoined_never : (old new : List Entry) (e : Edit) → rejoin old new e ≡ length new → rejoined old new e ≡ length old
rejoined_never old new e r = cond-false (ltb (rejoin old new e) (length new)) (old_at old new e (rejoin old new e)) (length old) (le-ltb (rejoin old new e) (length new) (omega arith))

-- A walk over ys from place p on, in mode m, whose entries are fresh: it has read the entries got, up to here, and goes on in this mode
pub record Walk (t : Tables) (ys : List ℕ) (m p : ℕ) (fresh got : List Entry) (mode here : ℕ) : Type 0 where
  pub on : got ++ read t mode 0 (drop here ys) ≡ fresh
  pub reached : p + total_length got ≡ here
  pub left_in : mode_from m got (length got) ≡ mode
  pub within : here ≤ length ys

pub walk_none : (t : Tables) (ys : List ℕ) (m p : ℕ) → p ≤ length ys → Walk t ys m p (read t m 0 (drop p ys)) [] m p
walk_none t ys m p h = record { on = refl; reached = add-zero p; left_in = refl; within = h }

mode_push : (m : ℕ) (got : List Entry) (e : Entry) → mode_from m (got ++ e ∷ []) (length got + 1) ≡ e.mode
mode_push m got e = mode_add m got (e ∷ []) 1

module _ (t : Tables) (ys : List ℕ) (m p : ℕ) (fresh got : List Entry) (mode here : ℕ) (w : Walk t ys m p fresh got mode here) where
  -- one entry more
  pub walk_more : here < length ys → Walk t ys m p fresh (got ++ token t mode (drop here ys) ∷ []) (token t mode (drop here ys)).mode (here + (token t mode (drop here ys)).length)
  walk_more h =
      let e = token t mode (drop here ys) in
      record {
        on = read_push t mode here ys got fresh h w.on;
        reached = omega (arith, w.reached, total_push got e);
        left_in = ap (mode_from m (got ++ e ∷ [])) (length_push got e) ∙ mode_push m got e;
        within = omega (arith, length-drop here ys, token_within t mode (drop here ys) (omega (arith, length-drop here ys)));
      }

  -- the end
  pub walk_last : length ys ≤ here → got ++ entry 1 0 1 mode 0 ∷ [] ≡ fresh
  walk_last h = read_last t mode here ys got fresh h w.on

  -- where the next entry starts, and in which mode it is read
  pub walk_there : length got < length fresh
  walk_there = omega (arith, ap length w.on, length-append got (read t mode 0 (drop here ys)), read_some t mode 0 (drop here ys))

  pub walk_start : p + start fresh (length got) ≡ here
  walk_start =
      let rest = read t mode 0 (drop here ys) in
      let s : start fresh (length got) ≡ total_length got + 0 = ap (λ l. start l (length got)) (sym w.on) ∙ ap (start (got ++ rest)) (sym (add-zero (length got))) ∙ start_add got rest 0 ∙ ap (λ n. total_length got + n) (start_zero rest) in
      omega (arith, w.reached)

  pub walk_mode : mode_from m fresh (length got) ≡ mode
  walk_mode =
      let rest = read t mode 0 (drop here ys) in
      ap (λ l. mode_from m l (length got)) (sym w.on) ∙ ap (mode_from m (got ++ rest)) (sym (add-zero (length got))) ∙ mode_add m got rest 0 ∙ w.left_in

-- the walk of a correction: it begins at the first entry that is read again
module _ (t : Tables) (b : Sound t) (e : Edit) (xs ys : List ℕ) (d : Edited e xs ys) where
  abbrev es : List Entry
  es = read t 0 0 xs

  abbrev fs : List Entry
  fs = read t 0 0 ys

  abbrev old : List Entry
  old = batch t xs

  abbrev new : List Entry
  new = batch t ys

  abbrev f : ℕ
  f = first old e.place

  abbrev fresh : List Entry
  fresh = read t (mode_before es f) 0 (drop (start es f) ys)

  pub fresh_from : start es f ≤ e.place
  fresh_from = starts_before t b xs e.place f (omega (arith, report_first t b e xs ys d)) (report_before t b e xs ys d)

  pub fresh_on : fs ≡ take f es ++ fresh
  fresh_on = prefix_on t b xs ys e.place (omega (arith, d.within)) (omega (arith, d.filled)) d.front f (report_first t b e xs ys d) (report_before t b e xs ys d)

  front_length : length (take f es) ≡ f
  front_length = length-take-le f es (omega (arith, report_first t b e xs ys d))

  pub fresh_length : length fs ≡ f + length fresh
  fresh_length = ap length fresh_on ∙ length-append (take f es) fresh ∙ ap (λ n. n + length fresh) front_length

  front_total : total_length (take f es) ≡ start es f
  front_total = sym (start_end (take f es)) ∙ ap (start (take f es)) front_length ∙ start_take f es f (omega arith)

  front_mode : mode_from 0 (take f es) (length (take f es)) ≡ mode_before es f
  front_mode = mode_from_before (take f es) (length (take f es)) ∙ ap (mode_before (take f es)) front_length ∙ same_mode f es (take f es) (take-take f f es (omega arith)) f (omega arith)

  pub fresh_start : (j : ℕ) → start fs (f + j) ≡ start es f + start fresh j
  fresh_start j =
      ap₂ (λ l n. start l (n + j)) fresh_on (sym front_length) ∙ start_add (take f es) fresh j ∙ ap (λ n. n + start fresh j) front_total

  pub fresh_mode : (j : ℕ) → mode_before fs (f + j) ≡ mode_from (mode_before es f) fresh j
  fresh_mode j =
      sym (mode_from_before fs (f + j)) ∙ ap₂ (λ l n. mode_from 0 l (n + j)) fresh_on (sym front_length) ∙ mode_add 0 (take f es) fresh j ∙ ap (λ m. mode_from m fresh j) front_mode

  -- the pointer may begin there
  pub behind_first : (q : ℕ) → e.place ≤ q → Behind old f q
  behind_first q h i l =
      omega (arith, batch_start t xs i, report_before t b e xs ys d i l, each_reads t b xs i (omega (arith, report_first t b e xs ys d)))

  pub walk_begin : Walk t ys (mode_before es f) (start es f) fresh [] (mode_before es f) (start es f)
  walk_begin = walk_none t ys (mode_before es f) (start es f) (omega (arith, fresh_from, d.filled))

  module _ (got : List Entry) (mode here : ℕ) (w : Walk t ys (mode_before es f) (start es f) fresh got mode here) where
    -- where the walk stands is a new entry's start, in that entry's mode
    pub walk_new : f + length got < length new
    walk_new = omega (arith, batch_count t ys, fresh_length, walk_there t ys (mode_before es f) (start es f) fresh got mode here w)

    pub walk_new_start : start new (f + length got) ≡ here
    walk_new_start = batch_start t ys (f + length got) ∙ fresh_start (length got) ∙ walk_start t ys (mode_before es f) (start es f) fresh got mode here w

    pub walk_new_mode : mode_before new (f + length got) ≡ mode
    walk_new_mode = batch_mode_before t ys (f + length got) ∙ fresh_mode (length got) ∙ walk_mode t ys (mode_before es f) (start es f) fresh got mode here w
