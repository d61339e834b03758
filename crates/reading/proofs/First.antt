-- Finding the first entry that is read again, and what a place shared by an old and a new entry gives.
use Rattle.std.proofs.Common.{◌≡◌, ℕ, ◌+◌, ◌-◌, ◌<◌, ◌≤◌, true, ltb, List, length, sym, refl, subst, inl, inr, arith}
use Rattle.std.proofs.lemmas.Bool.{cases_eq, lt-ltb, le-ltb}
use Rattle.books.specs.Tables.{Tables}
use Rattle.books.specs.Sound.{Sound}
use Rattle.reading.specs.Reading.{Entry, start, at, reach, batch}
use Rattle.reading.specs.Report.{Edit, first, starting, old_at, joins}
use Rattle.reading.proofs.Least.{least_is}
use Rattle.reading.proofs.Each.{each_apart}
use Rattle.reading.proofs.Same.{batch_count, batch_start}
use Rattle.reading.proofs.Rejoin.{Joined}
use Rattle.reading.proofs.Walk.{Behind, starting_is, old_at_is, joins_yes}
use Rattle.reading.proofs.Correct.{passed_own, batch_own}

-- the entries before f read nothing from place a on
abbrev pub ShortOf : List Entry → ℕ → ℕ → Type 0
ShortOf old f a = (i : ℕ) → i < f → reach old i ≤ a

pub short_none : (old : List Entry) (a : ℕ) → ShortOf old 0 a
short_none old a i h = absurd (omega arith)

pub short_more : (old : List Entry) (f a : ℕ) → ShortOf old f a → reach old f ≤ a → ShortOf old (f + 1) a
short_more old f a short h i l = elim (cases_eq i f) [ inl e ↦ subst (λ n. reach old n ≤ a) (sym e) h | inr e ↦ short i (omega arith) ]

-- an entry that starts at a place or before it leads by its lookback to one before which none reads that place
pub short_lookback : (t : Tables) (xs : List ℕ) (j a : ℕ) → j < length (batch t xs) → start (batch t xs) j ≤ a → ShortOf (batch t xs) (j - (at (batch t xs) j).lookback) a
short_lookback t xs j a h l i c = omega (arith, passed_own (batch t xs) j i (omega (arith, batch_own t xs j h)))

-- the first that does
pub first_is : (old : List Entry) (f a : ℕ) → ShortOf old f a → f < length old → a < reach old f → first old a ≡ f
first_is old f a short h l =
    least_is (λ j. ltb a (reach old j)) (length old) f (omega arith) (λ c. lt-ltb a (reach old f) l) (λ i c. le-ltb a (reach old i) (short i c))

module _ (t : Tables) (b : Sound t) (xs : List ℕ) where
  abbrev old : List Entry
  old = batch t xs

  -- no entry before another starts where it does
  pub behind_own : (k : ℕ) → k < length old → Behind old k (start old k)
  behind_own k h i l = omega (arith, each_apart t b xs i k l (omega (arith, batch_count t xs)), batch_start t xs i, batch_start t xs k)

  pub starting_own : (k : ℕ) → k < length old → starting old (start old k) ≡ k
  starting_own k h = starting_is old k (start old k) (behind_own k h) h refl

  -- so what is joined passes the test, with that very old entry
  pub joined_at : (new : List Entry) (e : Edit) (k j : ℕ) → Joined old new e k j → old_at old new e j ≡ k
  joined_at new e k j h = old_at_is old new e j k (start old k) (behind_own k h.old_there) h.behind h.level h.old_there refl

  pub joined_joins : (new : List Entry) (e : Edit) (k j : ℕ) → Joined old new e k j → joins old new e j ≡ true
  joined_joins new e k j h = joins_yes old new e j k (start old k) (behind_own k h.old_there) h.behind h.level h.old_there refl h.mode
