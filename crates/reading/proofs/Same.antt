-- A batch reading is the reading with the lookbacks given: all else of its entries is the same.
use Rattle.std.proofs.Common.{◌≡◌, ℕ, ◌<◌, eqb, ltb, List, length, ap, ◌∙◌}
use Rattle.books.specs.Tables.{Tables}
use Rattle.reading.specs.Reading.{Entry, read, start, at, reach, lookback, with_lookback, batch}
use Rattle.reading.specs.Laws.{mode_before}
use Rattle.reading.specs.Report.{least, first, starting}
use Rattle.reading.proofs.Least.{least_same}
use Rattle.reading.proofs.Lookback.{length_listed, at_listed, kind_listed, extent_listed, reading_listed, mode_listed, start_listed, reach_listed, mode_before_listed}

module _ (t : Tables) (xs : List ℕ) where
  abbrev es : List Entry
  es = read t 0 0 xs

  pub batch_count : length (batch t xs) ≡ length es
  unfolding batch
  batch_count = length_listed es es 0

  pub batch_at : (j : ℕ) → j < length es → at (batch t xs) j ≡ with_lookback (lookback es j) (at es j)
  unfolding batch
  batch_at j h = at_listed es j h

  pub batch_lookback : (j : ℕ) → j < length es → (at (batch t xs) j).lookback ≡ lookback es j
  batch_lookback j h = ap (λ e. e.lookback) (batch_at j h)

  pub batch_kind : (j : ℕ) → (at (batch t xs) j).kind ≡ (at es j).kind
  unfolding batch
  batch_kind j = kind_listed es es 0 j

  pub batch_extent : (j : ℕ) → (at (batch t xs) j).length ≡ (at es j).length
  unfolding batch
  batch_extent j = extent_listed es es 0 j

  pub batch_reading : (j : ℕ) → (at (batch t xs) j).reading ≡ (at es j).reading
  unfolding batch
  batch_reading j = reading_listed es es 0 j

  pub batch_mode : (j : ℕ) → (at (batch t xs) j).mode ≡ (at es j).mode
  unfolding batch
  batch_mode j = mode_listed es es 0 j

  pub batch_start : (j : ℕ) → start (batch t xs) j ≡ start es j
  unfolding batch
  batch_start j = start_listed es es 0 j

  pub batch_reach : (j : ℕ) → reach (batch t xs) j ≡ reach es j
  unfolding batch
  batch_reach j = reach_listed es es 0 j

  pub batch_mode_before : (j : ℕ) → mode_before (batch t xs) j ≡ mode_before es j
  unfolding batch
  batch_mode_before j = mode_before_listed es es 0 j

  pub batch_first : (a : ℕ) → first (batch t xs) a ≡ first es a
  batch_first a =
      least_same (λ j. ltb a (reach (batch t xs) j)) (λ j. ltb a (reach es j)) (length (batch t xs)) (λ j h. ap (ltb a) (batch_reach j)) ∙
      ap (least (λ j. ltb a (reach es j))) batch_count

  pub batch_starting : (p : ℕ) → starting (batch t xs) p ≡ starting es p
  batch_starting p =
      least_same (λ j. eqb (start (batch t xs) j) p) (λ j. eqb (start es j) p) (length (batch t xs)) (λ j h. ap (λ n. eqb n p) (batch_start j)) ∙
      ap (least (λ j. eqb (start es j) p)) batch_count
