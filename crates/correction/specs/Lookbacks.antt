-- What is known where lookbacks are given anew.
use Rattle.std.specs.Prelude.{◌≡◌, ℕ, ◌-◌, ◌<◌, ◌≤◌, List, ◌++◌, map, length, take, drop}
use Rattle.reading.specs.Reading.{Entry, start, at, lookback, with_lookback, greatest}
use Rattle.reading.specs.Report.{changed}
use Rattle.scanner.specs.Spots.{Passed, Fit}

-- The list `put` is `new` but for the lookbacks, of which those before `first` are new's already; new's entries have their own, and a pointer at
-- entry p, before which none reads first's start, may begin there
pub record Awaits (put new : List Entry) (first p : ℕ) : Type 0 where
  pub alike : map (with_lookback 0) put ≡ map (with_lookback 0) new
  pub given : take first new ++ drop first put ≡ put
  pub own : (j : ℕ) → j < length new → (at new j).lookback ≡ lookback new j
  pub fit : Fit new
  pub passed : Passed new p first

-- The first entries have been given new's lookbacks, all or those that start before the limit; and tail counts the kept ones through the last of them
-- that had another
pub record Given (put new after : List Entry) (first kept limit tail : ℕ) : Type 0 where
  pub stop : ℕ
  pub from : first ≤ stop
  pub within : stop ≤ length new
  pub after_is : after ≡ take stop new ++ drop stop put
  pub enough : stop < length new → limit ≤ start new stop
  pub tail_is : tail ≡ greatest (changed put new kept kept) (stop - kept)
