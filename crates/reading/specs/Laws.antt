-- Laws of batch reading, in the words of the subject. None of them says how a scan goes.
use Rattle.std.specs.Prelude.{◌≡◌, ℕ, zero, suc, ◌+◌, ◌-◌, ◌<◌, ◌≤◌, cond, List, [], ◌∷◌, length, take, drop, MatchBool, ◌==◌, ◌≢◌}
use Rattle.books.specs.Tables.{Tables, step, accept, kind_of, next_mode, start_state}
use Rattle.reading.specs.Reading.{Entry, entry, stuck, token, at, start, reach, lookback, with_lookback}

-- the state that the automaton is in after all of w, or 255 where some symbol of w has no step
abbrev pub after : Tables → ℕ → List ℕ → ℕ
after t s [] = s
after t s (x ∷ w) = cond (stuck t s x) 255 (after t (step t s x) w)

-- the rule that accepts w in mode m, or 255 for none
abbrev pub rule_of : Tables → ℕ → List ℕ → ℕ
rule_of t m w = let s = after t (start_state t m) w in cond (s == 255) 255 (accept t s)

-- the kind and the mode that rule r gives an entry read in mode m; none, 255, makes it a fault
abbrev pub Given : Tables → ℕ → ℕ → Entry → Type 0
Given t m r e =
    MatchBool (r == 255)
    ((e.kind ≡ 0) × (e.length ≡ 1) × (e.mode ≡ m))
    ((e.kind ≡ kind_of t r) × (e.mode ≡ next_mode t r))

-- e is the longest match at the front of xs in mode m: what is given is accepted, and no longer prefix is;
-- where no prefix is accepted, it is a fault
pub record LongestMatch (t : Tables) (m : ℕ) (xs : List ℕ) (e : Entry) : Type 0 where
  pub some : 1 ≤ e.length
  pub within : e.length ≤ length xs
  pub given : Given t m (rule_of t m (take e.length xs)) e
  pub no_longer : (n : ℕ) → e.length < n → n ≤ length xs → rule_of t m (take n xs) ≡ 255

-- xs and ys have the same first r symbols, the end counting as one
abbrev pub Agree : ℕ → List ℕ → List ℕ → Type 0
Agree zero xs ys = Unit {0}
Agree (suc r) [] [] = Unit {0}
Agree (suc r) [] (y ∷ ys) = ⊥
Agree (suc r) (x ∷ xs) [] = ⊥
Agree (suc r) (x ∷ xs) (y ∷ ys) = (x ≡ y) × Agree r xs ys

-- e depends on nothing but the symbols that it read: every text that agrees with this one there has the same token
abbrev pub DependsOnRead : Tables → ℕ → List ℕ → Entry → Type 0
DependsOnRead t m xs e = (ys : List ℕ) → Agree e.reading xs ys → token t m ys ≡ e

-- the mode in which entry j is read
abbrev pub mode_before : List Entry → ℕ → ℕ
mode_before es zero = 0
mode_before es (suc j) = (at es j).mode

abbrev pub total_length : List Entry → ℕ
total_length [] = 0
total_length (e ∷ es) = e.length + total_length es

-- es is a list of xs from its first token through the one end token
pub record Reads (t : Tables) (xs : List ℕ) (es : List Entry) : Type 0 where
  -- the lengths of all entries, added up, give the text's length
  pub adds_up : total_length es ≡ length xs
  -- every entry but the last is the token read where the one before it ended, in that one's mode
  pub each : (j : ℕ) → suc j < length es → at es j ≡ with_lookback (lookback es j) (token t (mode_before es j) (drop (start es j) xs))
  -- and it is no end token
  pub no_end : (j : ℕ) → suc j < length es → (at es j).kind ≢ 1
  -- the last is the end token, at the text's end
  pub some : 1 ≤ length es
  pub last : at es (length es - 1) ≡ entry 1 0 1 (mode_before es (length es - 1)) (lookback es (length es - 1))

-- each lookback reaches an entry that reads the start, and none earlier does
pub record LooksBack (es : List Entry) : Type 0 where
  pub within : (j : ℕ) → j < length es → (at es j).lookback ≤ j
  pub reaches : (j : ℕ) → j < length es → start es j < reach es (j - (at es j).lookback)
  pub none_earlier : (i j : ℕ) → j < length es → i + (at es j).lookback < j → reach es i ≤ start es j
