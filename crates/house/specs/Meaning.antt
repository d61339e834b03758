-- What the house books promise, in the words of the patterns and of the lines: t are the tables of a book. None of it says how they are laid out.
use Rattle.std.specs.Prelude.{◌≡◌, ℕ, suc, ◌<◌, ◌≤◌, Bool, false, cond, ◌||◌, ◌↔◌, List, [], ◌∷◌, ◌++◌, length, take, ◌==◌, ◌≢◌}
use Rattle.books.specs.Tables.{Tables, class, start_state}
use Rattle.reading.specs.Reading.{Entry, entry, token}
use Rattle.reading.specs.Laws.{after}
use Rattle.house.specs.Patterns.{GivenBy, Matched, rules_of, class_rule}

-- the class table gives every byte its class
unfoldable pub ClassesRight : Tables → Type 0
ClassesRight t = (b : ℕ) → b < 256 → class t b ≡ class_rule b

-- bytes that a rule of a mode matches get no other kind or next mode from another rule of it
unfoldable pub RulesApart : Type 0
RulesApart = (m : ℕ) (w : List ℕ) (k v j u : ℕ) → m < 2 → GivenBy (rules_of m) k v w → GivenBy (rules_of m) j u w → (k ≡ j) × (v ≡ u)

-- a rule of mode m with kind k and next mode v matches the first n bytes of xs, and no rule of the mode matches more
pub record Longest (m : ℕ) (xs : List ℕ) (k n v : ℕ) : Type 0 where
  pub some : 1 ≤ n
  pub within : n ≤ length xs
  pub matches : GivenBy (rules_of m) k v (take n xs)
  pub no_longer : (j : ℕ) → n < j → j ≤ length xs → Matched m (take j xs) → ⊥

-- no rule of mode m matches any front of xs
abbrev pub Unmatched : ℕ → List ℕ → Type 0
Unmatched m xs = (n : ℕ) → 1 ≤ n → n ≤ length xs → Matched m (take n xs) → ⊥

abbrev pub Is : Entry → ℕ → ℕ → ℕ → Type 0
Is e k n v = (e.kind ≡ k) × (e.length ≡ n) × (e.mode ≡ v)

-- e is what the rules of mode m give at the front of xs: kind, length and mode of the longest match, exactly where it is one,
-- and a fault, of length 1 and in the same mode, exactly where nothing matches
pub record ByRules (m : ℕ) (xs : List ℕ) (e : Entry) : Type 0 where
  pub matched : (k n v : ℕ) → 1 ≤ k → Is e k n v ↔ Longest m xs k n v
  pub fault : (e.kind ≡ 0) ↔ Unmatched m xs
  pub fault_is : e.kind ≡ 0 → Is e 0 1 m

-- so it is for every token, in both modes
unfoldable pub TokensByRules : Tables → Type 0
TokensByRules t = (m : ℕ) (xs : List ℕ) → m < 2 → 0 < length xs → ByRules m xs (token t m xs)

-- the book goes on after w exactly where w still begins some match of the mode
unfoldable pub StepsWhileMatching : Tables → Type 0
StepsWhileMatching t =
    (m : ℕ) (w : List ℕ) → m < 2 →
    (after t (start_state t m) w ≢ 255) ↔ ((u : List ℕ) × Matched m (w ++ u))

-- ---- lines: a list of token kinds, in which 5 is a newline token and 4 a stamp

-- how many kinds a line has: through the first newline token, or to the end
abbrev pub line_length : List ℕ → ℕ
line_length [] = 0
line_length (k ∷ ks) = cond (k == 5) 1 (suc (line_length ks))

-- the line ends with a newline token
abbrev pub ended : List ℕ → Bool
ended [] = false
ended (k ∷ ks) = k == 5 || ended ks

-- kind 2 if it begins with a stamp, else 3; behind a newline token nothing is read, and else the end is
abbrev pub line : ℕ → List ℕ → Entry
line k ks =
    let n = line_length (k ∷ ks) in
    entry (cond (k == 4) 2 3) n (cond (ended (k ∷ ks)) n (suc n)) 0 0

-- so it is for every list of kinds that is not empty
unfoldable pub LinesRight : Tables → Type 0
LinesRight t = (k : ℕ) (ks : List ℕ) → token t 0 (k ∷ ks) ≡ line k ks
