-- What a correction's loop keeps while it reads again, in one record, and its steps.
use Rattle.std.proofs.Common.{◌≡◌, ℕ, ◌+◌, ◌<◌, ◌≤◌, false, List, [], ◌∷◌, ◌++◌, length, drop, sym, ap, ◌∙◌, arith}
use Rattle.std.proofs.lemmas.List.{append-nil, length_push}
use Rattle.books.specs.Tables.{Tables}
use Rattle.books.specs.Sound.{Sound}
use Rattle.reading.specs.Reading.{Entry, entry, token, read, start, reach, batch}
use Rattle.reading.specs.Laws.{mode_before}
use Rattle.reading.specs.Report.{Edit, Edited, first, joins, rejoin, rejoined}
use Rattle.reading.proofs.Tail.{Reached, reached_more, reached_further}
use Rattle.reading.proofs.Walk.{Behind, behind_more, behind_later, Tried, tried_none, tried_more, walk_more, walk_last}
use Rattle.reading.proofs.Steps.{old_place, old_place_up, fresh_of, Walking, walk_begins, pointer_begins, step_early, step_apart, step_otherwise, step_joins, step_ends, step_reach}

-- It has read got, which reach no further than the limit, stands here and goes on in this mode; none of got joins,
-- and its pointer into the old entries, at k, has passed only such as start before here
pub record Going (t : Tables) (e : Edit) (xs ys : List ℕ) (got : List Entry) (mode here k limit : ℕ) : Type 0 where
  pub walk : Walking t e xs ys got mode here
  pub tried : Tried (batch t xs) (batch t ys) e (length got)
  pub behind : Behind (batch t xs) k (old_place e here)
  pub reached : Reached (batch t ys) (first (batch t xs) e.place) (first (batch t xs) e.place + length got) limit

module _ (t : Tables) (b : Sound t) (e : Edit) (xs ys : List ℕ) (d : Edited e xs ys) where
  abbrev old : List Entry
  old = batch t xs

  abbrev new : List Entry
  new = batch t ys

  abbrev f : ℕ
  f = first old e.place

  pub going_begins : (mode here limit : ℕ) → mode ≡ mode_before old f → here ≡ start old f → Going t e xs ys [] mode here f limit
  going_begins mode here limit m h =
      record {
        walk = walk_begins t b e xs ys d mode here m h;
        tried = tried_none old new e;
        behind = pointer_begins t b e xs ys d here;
        reached = λ i a l. absurd (omega arith);
      }

  module _ (got : List Entry) (mode here k limit : ℕ) (g : Going t e xs ys got mode here k limit) where
    abbrev tok : Entry
    tok = token t mode (drop here ys)

    -- the pointer passes one old entry more
    pub going_pointer : start old k < old_place e here → Going t e xs ys got mode here (k + 1) limit
    going_pointer h = record { walk = g.walk; tried = g.tried; behind = behind_more old k (old_place e here) g.behind h; reached = g.reached }

    -- nothing joins here: before the end of what was inserted, where no old entry starts, where it is read in another mode
    pub going_early : here < e.place + e.inserted → joins old new e (f + length got) ≡ false
    going_early h = step_early t b e xs ys d got mode here g.walk h

    pub going_apart : e.place + e.inserted ≤ here → (k < length old → old_place e here < start old k) → joins old new e (f + length got) ≡ false
    going_apart far past = step_apart t b e xs ys d got mode here g.walk far k g.behind past

    pub going_otherwise : e.place + e.inserted ≤ here → k < length old → start old k ≡ old_place e here → (mode_before old k ≡ mode → ⊥) →
        joins old new e (f + length got) ≡ false
    going_otherwise far h s m = step_otherwise t b e xs ys d got mode here g.walk far k g.behind h s m

    -- so one entry more is read
    pub going_more : joins old new e (f + length got) ≡ false → here < length ys → (further : ℕ) → limit ≤ further → here + tok.reading ≤ further →
        Going t e xs ys (got ++ tok ∷ []) tok.mode (here + tok.length) k further
    going_more apart h further l r =
        let count : length (got ++ tok ∷ []) ≡ length got + 1 = length_push got tok in
        let reach-one : reach new (f + length got) ≤ further = omega (arith, step_reach t b e xs ys d got mode here g.walk h) in
        let so_far : Reached new f (f + length got + 1) further = reached_more new f (f + length got) further (reached_further new f (f + length got) limit further l g.reached) reach-one in
        record {
          walk = walk_more t ys _ _ (fresh_of t e xs ys) got mode here g.walk h;
          tried = λ i a. tried_more old new e (length got) g.tried apart i (omega (arith, count));
          behind = behind_later old k (old_place e here) (old_place e (here + tok.length)) (old_place_up e here (here + tok.length) (omega arith)) g.behind;
          reached = λ i a c. so_far i a (omega (arith, count));
        }

    -- the readings rejoin here, at old entry k
    pub going_joins : e.place + e.inserted ≤ here → k < length old → start old k ≡ old_place e here → mode_before old k ≡ mode →
        (rejoin old new e ≡ f + length got) × (rejoined old new e ≡ k)
    going_joins far h s m = step_joins t b e xs ys d got mode here g.walk far k g.behind g.tried h s m

    -- what is read is the beginning of all that there is to read
    pub going_on : got ++ read t mode 0 (drop here ys) ≡ fresh_of t e xs ys
    going_on = g.walk.on

    -- or the end token is read too, and they never do
    abbrev ended : List Entry
    ended = got ++ entry 1 0 1 mode 0 ∷ []

    pub going_ends : joins old new e (f + length got) ≡ false → length ys ≤ here →
        (rejoin old new e ≡ f + length ended) × (rejoined old new e ≡ length old) × (f + length ended ≡ length new) × (ended ++ [] ≡ fresh_of t e xs ys)
    going_ends apart h =
        let count : length got + 1 ≡ length ended = sym (length_push got (entry 1 0 1 mode 0)) in
        let ends = step_ends t b e xs ys d got mode here g.walk h (tried_more old new e (length got) g.tried apart) in
        (ends.0 ∙ ap (λ n. f + n) count, ends.1, ap (λ n. f + n) (sym count) ∙ ends.2, append-nil ended ∙ walk_last t ys _ _ (fresh_of t e xs ys) got mode here g.walk h)
