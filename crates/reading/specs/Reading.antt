-- Batch reading: the tokens of a text under a book, stated once for symbols of every kind.
use Rattle.std.specs.Prelude.{ℕ, zero, suc, pred, ◌+◌, ◌-◌, Bool, cond, not, ◌||◌, List, [], ◌∷◌, length, ◌==◌, nat_lt, slice_index_or}
use Rattle.books.specs.Tables.{Tables, step, closed, accept, kind_of, next_mode, start_state}

-- An entry of a list: a token, or a line, which is a token of tokens.
-- mode is the mode after it; reading counts the symbols that its scan read, the end counting as one;
-- lookback says how many entries back the earliest one stands that reads this entry's start.
pub record Entry : Type 0 where
  pub kind : ℕ
  pub length : ℕ
  pub reading : ℕ
  pub mode : ℕ
  pub lookback : ℕ

abbrev pub entry : ℕ → ℕ → ℕ → ℕ → ℕ → Entry
entry k l r m b = record { kind = k; length = l; reading = r; mode = m; lookback = b }

-- the greatest number from 1 to n that passes, or 0
abbrev pub greatest : (ℕ → Bool) → ℕ → ℕ
greatest p zero = 0
greatest p (suc n) = cond (p (suc n)) (suc n) (greatest p n)

-- no step is taken at code x
abbrev pub stuck : Tables → ℕ → ℕ → Bool
stuck t s x = closed t s || step t s x == 255

-- the states that a scan from state s comes to, one for each step that it takes
abbrev pub path : Tables → ℕ → List ℕ → List ℕ
path t s [] = []
path t s (x ∷ xs) = cond (stuck t s x) [] (step t s x ∷ path t (step t s x) xs)

-- the state after the first n steps
abbrev pub state : ℕ → List ℕ → ℕ → ℕ
state s ps n = slice_index_or (s ∷ ps) n s

-- the state in which the path ends
abbrev pub final : ℕ → List ℕ → ℕ
final s [] = s
final s (p ∷ ps) = final p ps

-- the length of the longest match, or 0
abbrev pub longest : Tables → ℕ → List ℕ → ℕ
longest t s ps = greatest (λ n. not (accept t (state s ps n) == 255)) (length ps)

-- a scan stops by reading a symbol, or the end, that has no step; and in a closed state without reading
abbrev pub reading : Tables → ℕ → List ℕ → ℕ
reading t s ps = length ps + cond (closed t (final s ps)) 0 1

-- what a match of length n by a rule gives; without a match a fault of length 1 that keeps the mode
abbrev pub matched : Tables → ℕ → ℕ → ℕ → ℕ → Entry
matched t m r zero rule = entry 0 1 r m 0
matched t m r (suc n) rule = entry (kind_of t rule) (suc n) r (next_mode t rule) 0

abbrev pub token_on : Tables → ℕ → ℕ → List ℕ → Entry
token_on t m s ps = matched t m (reading t s ps) (longest t s ps) (accept t (state s ps (longest t s ps)))

-- the token at the front of xs, read in mode m; xs is not empty
unfoldable pub token : Tables → ℕ → List ℕ → Entry
token t m xs = token_on t m (start_state t m) (path t (start_state t m) xs)

-- the entries without their lookbacks; the next skip symbols belong to the entry before
unfoldable pub read : Tables → ℕ → ℕ → List ℕ → List Entry
read t m skip [] = entry 1 0 1 m 0 ∷ []
read t m zero (x ∷ xs) = let e = token t m (x ∷ xs) in e ∷ read t e.mode (pred e.length) xs
read t m (suc skip) (x ∷ xs) = read t m skip xs

-- where entry j starts: the sum of the lengths before it
abbrev pub start : List Entry → ℕ → ℕ
start [] j = 0
start (e ∷ es) zero = 0
start (e ∷ es) (suc j) = e.length + start es j

abbrev pub none : Entry
none = entry 0 0 0 0 0

abbrev pub at : List Entry → ℕ → Entry
at es j = slice_index_or es j none

-- entry j reads the places from its start up to here, this one left out
abbrev pub reach : List Entry → ℕ → ℕ
reach es j = start es j + (at es j).reading

-- the greatest b such that entry j - b reads j's start
abbrev pub lookback : List Entry → ℕ → ℕ
lookback es j = greatest (λ b. nat_lt (start es j) (reach es (j - b))) j

abbrev pub with_lookback : ℕ → Entry → Entry
with_lookback b e = entry e.kind e.length e.reading e.mode b

abbrev pub listed : List Entry → List Entry → ℕ → List Entry
listed all [] j = []
listed all (e ∷ es) j = with_lookback (lookback all j) e ∷ listed all es (suc j)

-- the list of a whole text: from place 0 in mode 0, through the end token
unfoldable pub batch : Tables → List ℕ → List Entry
batch t xs = let es = read t 0 0 xs in listed es es 0

-- the codes that a list's entries give to the list above it: the kinds of all but the end token
abbrev pub kinds : List Entry → List ℕ
kinds [] = []
kinds (e ∷ []) = []
kinds (e ∷ f ∷ es) = e.kind ∷ kinds (f ∷ es)
