-- What a correction reports: the list of the text before it and the list of the text after it, compared.
-- Nothing here says how a program finds it.
use Rattle.std.specs.Prelude.{◌≡◌, ℕ, zero, suc, pred, ◌+◌, ◌-◌, ◌<◌, ◌≤◌, Bool, cond, not, ◌&&◌, ltb, List, length, take, drop, ◌==◌, nat_eq, nat_le, nat_lt}
use Rattle.reading.specs.Reading.{Entry, at, start, reach, greatest, with_lookback}
use Rattle.reading.specs.Laws.{mode_before}

-- cut symbols at a place give way to inserted ones
pub record Edit : Type 0 where
  pub place : ℕ
  pub cut : ℕ
  pub inserted : ℕ

abbrev pub edit : ℕ → ℕ → ℕ → Edit
edit a c i = record { place = a; cut = c; inserted = i }

-- ys is xs with such an edit made in it
pub record Edited (e : Edit) (xs ys : List ℕ) : Type 0 where
  pub within : e.place + e.cut ≤ length xs
  pub filled : e.place + e.inserted ≤ length ys
  pub front : take e.place ys ≡ take e.place xs
  pub back : drop (e.place + e.inserted) ys ≡ drop (e.place + e.cut) xs

-- first: the first entry that is read again. out: how many old entries give way, in: to how many new ones.
-- tail: how many of the kept entries behind them, through the last whose lookback changes
pub record Report : Type 0 where
  pub first : ℕ
  pub out : ℕ
  pub «in» : ℕ
  pub tail : ℕ

-- the least number below n that passes, or n
abbrev pub least : (ℕ → Bool) → ℕ → ℕ
least p zero = 0
least p (suc n) = cond (p 0) 0 (suc (least (λ k. p (suc k)) n))

-- the first old entry that reads place a or a later place
abbrev pub first : List Entry → ℕ → ℕ
first old a = least (λ j. ltb a (reach old j)) (length old)

-- the old entry that starts at p, or their number
abbrev pub starting : List Entry → ℕ → ℕ
starting old p = least (λ k. nat_eq (start old k) p) (length old)

-- the old entry that starts where new entry j does, the edit allowed for
abbrev pub old_at : List Entry → List Entry → Edit → ℕ → ℕ
old_at old new e j = starting old ((start new j + e.cut) - e.inserted)

-- new entry j starts behind what was inserted, where an old one does and in the same mode
abbrev pub joins : List Entry → List Entry → Edit → ℕ → Bool
joins old new e j =
    nat_le (e.place + e.inserted) (start new j) &&
    (nat_lt (old_at old new e j) (length old) && mode_before old (old_at old new e j) == mode_before new j)

-- the earliest such entry from first on, or the number of the new entries
abbrev pub rejoin : List Entry → List Entry → Edit → ℕ
rejoin old new e = let f = first old e.place in f + least (λ k. joins old new e (f + k)) (length new - f)

-- the old entry that the rejoin falls on, or the number of the old entries
abbrev pub rejoined : List Entry → List Entry → Edit → ℕ
rejoined old new e = let n = rejoin old new e in cond (nat_lt n (length new)) (old_at old new e n) (length old)

-- the t-th kept entry has another lookback than before, where the old entries are kept from k on and stand from n on
abbrev pub changed : List Entry → List Entry → ℕ → ℕ → ℕ → Bool
changed old new k n t = not ((at old (k + pred t)).lookback == (at new (n + pred t)).lookback)

unfoldable pub report : List Entry → List Entry → Edit → Report
report old new e =
    let f = first old e.place in
    let n = rejoin old new e in
    let k = rejoined old new e in
    record { first = f; out = k - f; «in» = n - f; tail = greatest (changed old new k n) (length new - n) }

-- how many of the replaced entries were end entries: 1 where the report runs through them, else 0
abbrev pub through : List Entry → Report → ℕ
through new r = cond (r.first + r.«in» == length new) 1 0

-- the edit that a report is for the list above, whose symbols are the entries before the end entry
abbrev pub edit_above : List Entry → Report → Edit
edit_above new r = edit r.first (r.out - through new r) (r.«in» - through new r)

-- The law of a report. In the new list the report covers in + tail entries from first on; every entry outside is the same in each field as
-- before, and a kept one inside differs in its lookback alone.
pub record Covers (old new : List Entry) (r : Report) : Type 0 where
  pub old_there : r.first + r.out ≤ length old
  pub new_there : r.first + r.«in» + r.tail ≤ length new
  pub balance : length new + r.out ≡ length old + r.«in»
  pub before : (n : ℕ) → n < r.first → at new n ≡ at old n
  pub kept : (n : ℕ) → r.first + r.«in» ≤ n → n < length new → with_lookback 0 (at new n) ≡ with_lookback 0 (at old ((n - r.«in») + r.out))
  pub beyond : (n : ℕ) → r.first + r.«in» + r.tail ≤ n → n < length new → at new n ≡ at old ((n - r.«in») + r.out)
