-- The steps of a correction's walk, in the numbers that a loop keeps: the entries it has read, its place, its mode, and its pointer into the old entries.
use Rattle.std.proofs.Common.{◌≡◌, ℕ, ◌+◌, ◌-◌, ◌<◌, ◌≤◌, Bool, false, ◌&&◌, eqb, ltb, leb, List, [], ◌∷◌, ◌++◌, length, take, drop, sym, refl, ap, ◌∙◌, ap₂, subst₂, add-zero, arith, drop-drop}
use Rattle.std.proofs.lemmas.List.{length_push, length-take-le, length-drop, drop_at}
use Rattle.books.specs.Tables.{Tables}
use Rattle.books.specs.Sound.{Sound}
use Rattle.reading.specs.Reading.{Entry, entry, token, read, start, at, reach, batch}
use Rattle.reading.specs.Laws.{mode_before}
use Rattle.reading.specs.Report.{Edit, Edited, least, first, starting, joins, rejoin, rejoined}
use Rattle.reading.proofs.Least.{least_same}
use Rattle.reading.proofs.Lists.{read_none, read_more, mode_from}
use Rattle.reading.proofs.Split.{at_add}
use Rattle.reading.proofs.Same.{batch_count, batch_start, batch_reading, batch_mode_before}
use Rattle.reading.proofs.Rejoin.{report_first, report_kept}
use Rattle.reading.proofs.Walk.{Behind, behind_first, joins_early, joins_yes, joins_otherwise, joins_apart, old_at_is, Tried, rejoin_is, rejoined_is, rejoin_never, rejoined_never, Walk, walk_begin, walk_last, walk_new, walk_new_start, walk_new_mode, fresh_on, fresh_length, fresh_start, fresh_mode}

-- where in the old text a new place behind what was inserted lies
abbrev pub old_place : Edit → ℕ → ℕ
old_place e here = e.place + e.cut + (here - (e.place + e.inserted))

pub old_place_level : (e : Edit) (here : ℕ) → e.place + e.inserted ≤ here → old_place e here + e.inserted ≡ here + e.cut
old_place_level e here h = omega arith

pub old_place_up : (e : Edit) (here there : ℕ) → here ≤ there → old_place e here ≤ old_place e there
old_place_up e here there h = omega arith

-- the entries that the walk reads, to the end of the text
abbrev pub fresh_of : Tables → Edit → List ℕ → List ℕ → List Entry
fresh_of t e xs ys =
    let f = first (batch t xs) e.place in
    read t (mode_before (read t 0 0 xs) f) 0 (drop (start (read t 0 0 xs) f) ys)

-- it has read the entries got, stands here, and goes on in this mode
abbrev pub Walking : Tables → Edit → List ℕ → List ℕ → List Entry → ℕ → ℕ → Type 0
Walking t e xs ys got mode here =
    let f = first (batch t xs) e.place in
    Walk t ys (mode_before (read t 0 0 xs) f) (start (read t 0 0 xs) f) (fresh_of t e xs ys) got mode here

-- the test at entry j of those that the walk reads, the first in mode m and at place p
abbrev pub meets : List Entry → Edit → ℕ → ℕ → List Entry → ℕ → Bool
meets old e m p fresh j =
    let q = p + start fresh j in
    let k = starting old ((q + e.cut) - e.inserted) in
    leb (e.place + e.inserted) q && (ltb k (length old) && eqb (mode_before old k) (mode_from m fresh j))

module _ (t : Tables) (b : Sound t) (e : Edit) (xs ys : List ℕ) (d : Edited e xs ys) where
  abbrev es : List Entry
  es = read t 0 0 xs

  abbrev fs : List Entry
  fs = read t 0 0 ys

  abbrev old : List Entry
  old = batch t xs

  abbrev new : List Entry
  new = batch t ys

  abbrev f : ℕ
  f = first old e.place

  -- the walk's own view of the rejoin
  pub joins_meets : (j : ℕ) → joins old new e (f + j) ≡ meets old e (mode_before es f) (start es f) (fresh_of t e xs ys) j
  joins_meets j =
      ap₂
      (λ q m. leb (e.place + e.inserted) q && (ltb (starting old ((q + e.cut) - e.inserted)) (length old) && eqb (mode_before old (starting old ((q + e.cut) - e.inserted))) m))
      (batch_start t ys (f + j) ∙ fresh_start t b e xs ys d j)
      (batch_mode_before t ys (f + j) ∙ fresh_mode t b e xs ys d j)

  pub rejoin_fresh : rejoin old new e ≡ f + least (meets old e (mode_before es f) (start es f) (fresh_of t e xs ys)) (length (fresh_of t e xs ys))
  rejoin_fresh =
      let count : length new - f ≡ length (fresh_of t e xs ys) = omega (arith, batch_count t ys, fresh_length t b e xs ys d) in
      ap (λ n. f + n) (least_same (λ j. joins old new e (f + j)) (meets old e (mode_before es f) (start es f) (fresh_of t e xs ys)) (length new - f) (λ j h. joins_meets j) ∙ ap (least (meets old e (mode_before es f) (start es f) (fresh_of t e xs ys))) count)

  -- it begins at the start of the first entry that is read again, in the mode before it
  pub walk_begins : (mode here : ℕ) → mode ≡ mode_before old f → here ≡ start old f → Walking t e xs ys [] mode here
  walk_begins mode here m h =
      subst₂ (λ k p. Walking t e xs ys [] k p) (sym (m ∙ batch_mode_before t xs f)) (sym (h ∙ batch_start t xs f)) (walk_begin t b e xs ys d)

  pub pointer_begins : (here : ℕ) → Behind old f (old_place e here)
  pointer_begins here = behind_first t b e xs ys d (old_place e here) (omega arith)

  module _ (got : List Entry) (mode here : ℕ) (w : Walking t e xs ys got mode here) where
    there : f + length got < length new
    there = walk_new t b e xs ys d got mode here w

    starts : start new (f + length got) ≡ here
    starts = walk_new_start t b e xs ys d got mode here w

    in_mode : mode_before new (f + length got) ≡ mode
    in_mode = walk_new_mode t b e xs ys d got mode here w

    -- before the end of what was inserted nothing joins
    pub step_early : here < e.place + e.inserted → joins old new e (f + length got) ≡ false
    step_early h = joins_early old new e (f + length got) (omega (arith, starts))

    module _ (far : e.place + e.inserted ≤ here) (k : ℕ) (behind : Behind old k (old_place e here)) where
      far_new : e.place + e.inserted ≤ start new (f + length got)
      far_new = omega (arith, starts)

      level : old_place e here + e.inserted ≡ start new (f + length got) + e.cut
      level = omega (arith, starts)

      -- the pointer has passed the place, or come to the end
      pub step_apart : (k < length old → old_place e here < start old k) → joins old new e (f + length got) ≡ false
      step_apart past = joins_apart old new e (f + length got) k (old_place e here) behind far_new level past

      -- the old entry at the place is read in another mode
      pub step_otherwise : k < length old → start old k ≡ old_place e here → (mode_before old k ≡ mode → ⊥) → joins old new e (f + length got) ≡ false
      step_otherwise h s m = joins_otherwise old new e (f + length got) k (old_place e here) behind far_new level h s (λ q. m (q ∙ in_mode))

      -- the old entry at the place is read in the same mode
      pub step_joins : Tried old new e (length got) → k < length old → start old k ≡ old_place e here → mode_before old k ≡ mode →
          (rejoin old new e ≡ f + length got) × (rejoined old new e ≡ k)
      step_joins tried h s m =
          let n : rejoin old new e ≡ f + length got = rejoin_is old new e (length got) tried there (joins_yes old new e (f + length got) k (old_place e here) behind far_new level h s (m ∙ sym in_mode)) in
          (n, rejoined_is old new e (f + length got) k n there (old_at_is old new e (f + length got) k (old_place e here) behind far_new level h s))

    -- at the end of the text the end token is the last to be tried
    pub step_ends : length ys ≤ here → Tried old new e (length got + 1) →
        (rejoin old new e ≡ f + (length got + 1)) × (rejoined old new e ≡ length old) × (f + (length got + 1) ≡ length new)
    step_ends h tried =
        let last : got ++ entry 1 0 1 mode 0 ∷ [] ≡ fresh_of t e xs ys = walk_last t ys (mode_before es f) (start es f) (fresh_of t e xs ys) got mode here w h in
        let all : f + (length got + 1) ≡ length new = omega (arith, batch_count t ys, fresh_length t b e xs ys d, ap length last, length_push got (entry 1 0 1 mode 0)) in
        let n : rejoin old new e ≡ length new = rejoin_never old new e (length got + 1) tried all in
        (n ∙ sym all, rejoined_never old new e n, all)

  -- the new reading is the old one, with what was read again in place of what gave way
  pub spliced : (got rest : List Entry) → got ++ rest ≡ fresh_of t e xs ys → rejoin old new e ≡ f + length got →
      fs ≡ take f es ++ (got ++ drop (rejoined old new e) es)
  spliced got rest on n =
      let front : length (take f es) ≡ f = length-take-le f es (omega (arith, report_first t b e xs ys d)) in
      let all : fs ≡ take f es ++ (got ++ rest) = fresh_on t b e xs ys d ∙ ap (λ l. take f es ++ l) (sym on) in
      let behind : drop (f + length got) fs ≡ rest =
      sym (drop-drop (length got) f fs) ∙ ap (λ l. drop (length got) (drop f l)) all ∙
      ap (drop (length got)) (drop_at (take f es) (got ++ rest) f front) ∙ drop_at got rest (length got) refl in
      let kept : drop (f + length got) fs ≡ drop (rejoined old new e) es = ap (λ i. drop i fs) (sym n) ∙ (report_kept t b e xs ys d).back in
      all ∙ ap (λ l. take f es ++ (got ++ l)) (sym behind ∙ kept)

  -- how far the next entry reads
  module _ (got : List Entry) (mode here : ℕ) (w : Walking t e xs ys got mode here) where
    next_at : at fs (f + length got) ≡ at (read t mode 0 (drop here ys)) 0
    next_at =
        let rest = read t mode 0 (drop here ys) in
        let front : length (take f es) ≡ f = length-take-le f es (omega (arith, report_first t b e xs ys d)) in
        ap₂ (λ l n. at l (n + length got)) (fresh_on t b e xs ys d) (sym front) ∙ at_add (take f es) (fresh_of t e xs ys) (length got) ∙
        ap₂ (λ l n. at l n) (sym w.on) (sym (add-zero (length got))) ∙ at_add got rest 0

    pub step_at : here < length ys → at fs (f + length got) ≡ token t mode (drop here ys)
    step_at h = next_at ∙ ap (λ l. at l 0) (read_more t mode (drop here ys) (omega (arith, length-drop here ys)))

    pub step_reach : here < length ys → reach new (f + length got) ≡ here + (token t mode (drop here ys)).reading
    step_reach h = ap₂ (λ n r. n + r) (walk_new_start t b e xs ys d got mode here w) (batch_reading t ys (f + length got) ∙ ap (λ c. c.reading) (step_at h))

    pub last_at : length ys ≤ here → at fs (f + length got) ≡ entry 1 0 1 mode 0
    last_at h = next_at ∙ ap (λ l. at l 0) (read_none t mode (drop here ys) (omega (arith, length-drop here ys)))

    pub last_reach : length ys ≤ here → reach new (f + length got) ≡ here + 1
    last_reach h = ap₂ (λ n r. n + r) (walk_new_start t b e xs ys d got mode here w) (batch_reading t ys (f + length got) ∙ ap (λ c. c.reading) (last_at h))
