-- What a scan at any place gives.
use Rattle.std.specs.Prelude.{◌≡◌, ℕ, ◌+◌, ◌<◌, List, [], ◌∷◌, Option, Some, None}
use Rattle.std.specs.List.{slice_get}
use Rattle.books.specs.Tables.{Tables, step}
use Rattle.reading.specs.Reading.{Entry, entry, matched, token}
use Rattle.scanner.specs.declared.scans.Found.{Found}
use Rattle.scanner.specs.declared.scans.Match.{Match}

-- the length and the rule of a match, or 0 and none where there is none
abbrev pub match_length : Option Match → ℕ
match_length None = 0
match_length (Some m) = m.length

abbrev pub match_rule : Option Match → ℕ
match_rule None = 255
match_rule (Some m) = m.rule

-- what a scan that came to this gives
abbrev pub found : Tables → ℕ → Found → Entry
found t m f = matched t m f.reading (match_length f.longest) (match_rule f.longest)

-- the token at the front of xs in mode m, or the end token where nothing is left; without its lookback
abbrev pub scanned : Tables → ℕ → List ℕ → Entry
scanned t m [] = entry 1 0 1 m 0
scanned t m (x ∷ xs) = token t m (x ∷ xs)

-- each of the n symbols from a place on leads from state s to itself
abbrev pub Stays : Tables → List ℕ → ℕ → ℕ → ℕ → Type 0
Stays t codes s place n = (k : ℕ) → k < n → (x : ℕ) × (Some x ≡ slice_get codes (place + k)) × (step t s x ≡ s)
