-- The laws of batch reading.
use Rattle.std.proofs.Common.{◌≡◌, ℕ, zero, suc, ◌+◌, ◌-◌, ◌<◌, ◌≤◌, List, length, drop, sym, ap, ◌∙◌, ap₂, arith}
use Rattle.books.specs.Tables.{Tables}
use Rattle.books.specs.Sound.{Sound}
use Rattle.reading.specs.Reading.{Entry, entry, token, read, start, at, lookback, with_lookback, listed, batch, kinds}
use Rattle.reading.specs.Laws.{mode_before, Reads, LooksBack, total_length}
use Rattle.reading.proofs.Token.{token_no_end}
use Rattle.reading.proofs.Lists.{read_some, read_length, read_adds_up, read_each, read_end, read_modes, read_reads, mode_from_before}
use Rattle.reading.proofs.Lookback.{length_listed, at_listed, kind_listed, start_listed, lookback_listed, mode_before_listed, total_listed, kinds_listed, looks_back_listed}

-- modes before entries are the book's
pub mode_before_below : (t : Tables) → Sound t → (xs : List ℕ) (j : ℕ) → mode_before (read t 0 0 xs) j < length t.starts
mode_before_below t b xs zero = b.some_mode
mode_before_below t b xs (suc j) = read_modes t b 0 0 xs j b.some_mode

module _ (t : Tables) (b : Sound t) (xs : List ℕ) where
  abbrev es : List Entry
  es = read t 0 0 xs

  abbrev all : List Entry
  all = listed es es 0

  len : length all ≡ length es
  len = length_listed es es 0

  -- entry j of the reading, with the mode before it
  each_of : (j : ℕ) → suc j < length es → at es j ≡ token t (mode_before es j) (drop (start es j) xs)
  each_of j h = read_each t 0 xs j h ∙ ap (λ m. token t m (drop (start es j) xs)) (mode_from_before es j)

  each : (j : ℕ) → suc j < length all → at all j ≡ with_lookback (lookback all j) (token t (mode_before all j) (drop (start all j) xs))
  each j h =
      at_listed es j (omega (arith, len)) ∙
      ap₂ with_lookback (sym (lookback_listed es es 0 j)) (each_of j (omega (arith, len)) ∙ sym (ap₂ (λ m n. token t m (drop n xs)) (mode_before_listed es es 0 j) (start_listed es es 0 j)))

  no_end : (j : ℕ) → suc j < length all → (at all j).kind ≡ 1 → ⊥
  no_end j h e =
      token_no_end t b (mode_before es j) (mode_before_below t b xs j) (drop (start es j) xs) (ap (λ f. f.kind) (sym (each_of j (omega (arith, len)))) ∙ sym (kind_listed es es 0 j) ∙ e)

  last : (j : ℕ) → suc j ≡ length all → at all j ≡ entry 1 0 1 (mode_before all j) (lookback all j)
  last j h =
      at_listed es j (omega (arith, len)) ∙
      ap₂ with_lookback (sym (lookback_listed es es 0 j)) (read_end t 0 xs j (omega (arith, len)) ∙ ap (λ m. entry 1 0 1 m 0) (mode_from_before es j ∙ sym (mode_before_listed es es 0 j)))

-- a batch reading is a list of its text, from its first token through the one end token
-- the lengths of all entries, added up, give the text's length
pub batch_adds_up : (t : Tables) (xs : List ℕ) → total_length (batch t xs) ≡ length xs
unfolding batch
batch_adds_up t xs = total_listed (read t 0 0 xs) (read t 0 0 xs) 0 ∙ read_adds_up t 0 0 xs ∙ omega arith

pub reads : (t : Tables) → Sound t → (xs : List ℕ) → Reads t xs (batch t xs)
unfolding batch
reads t b xs =
    let some : 1 ≤ length (all t b xs) = omega (arith, len t b xs, read_some t 0 0 xs) in
    record {
      adds_up = batch_adds_up t xs;
      each = each t b xs;
      no_end = no_end t b xs;
      some = some;
      last = last t b xs (length (all t b xs) - 1) (omega arith);
    }

-- and its lookbacks are as they should be
pub looks_back : (t : Tables) → Sound t → (xs : List ℕ) → LooksBack (batch t xs)
unfolding batch
looks_back t b xs = looks_back_listed (read t 0 0 xs) (λ j h. read_reads t b 0 0 xs j b.some_mode h)

-- it is the reading, with the lookbacks given
pub batch_is : (t : Tables) (xs : List ℕ) (fs : List Entry) → fs ≡ read t 0 0 xs → batch t xs ≡ listed fs fs 0
unfolding batch
batch_is t xs fs e = ap (λ l. listed l l 0) (sym e)

-- it has at most one entry more than the text has symbols
pub batch_length : (t : Tables) (xs : List ℕ) → length (batch t xs) ≤ length xs + 1
unfolding batch
batch_length t xs = let es = read t 0 0 xs in omega (arith, length_listed es es 0, read_length t 0 0 xs)

pub batch_some : (t : Tables) (xs : List ℕ) → 1 ≤ length (batch t xs)
unfolding batch
batch_some t xs = let es = read t 0 0 xs in omega (arith, length_listed es es 0, read_some t 0 0 xs)

-- its kinds are those of the reading
pub batch_kinds : (t : Tables) (xs : List ℕ) → kinds (batch t xs) ≡ kinds (read t 0 0 xs)
unfolding batch
batch_kinds t xs = let es = read t 0 0 xs in kinds_listed es es 0
