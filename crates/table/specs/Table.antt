-- The table that the programs print of a list: a header, then a row for each entry.
use Rattle.std.specs.Prelude.{ℕ, ◌-◌, List, [], ◌∷◌, ◌++◌, length, replicate, codes, decimal}
use Rattle.std.specs.List.{range_with_len, flat_map}
use Rattle.reading.specs.Reading.{Entry, at, start}

-- a number in base ten, six wide and right-justified; a longer one is not cut
abbrev pub field : ℕ → List ℕ
field n = replicate (6 - length (decimal n)) 32 ++ decimal n

abbrev pub row : List ℕ → List ℕ
row ns = flat_map field ns ++ (10 ∷ [])

-- the seven columns of entry number j, which starts at place p
abbrev pub columns : ℕ → ℕ → Entry → List ℕ
columns j p e = j ∷ e.kind ∷ p ∷ e.length ∷ e.reading ∷ e.mode ∷ e.lookback ∷ []

unfoldable pub header : List ℕ
header = codes "    no  kind start   len  read  mode  back" ++ (10 ∷ [])

-- the first n rows
unfoldable pub rows : List Entry → ℕ → List ℕ
rows es n = flat_map (λ j. row (columns j (start es j) (at es j))) (range_with_len 0 n)

unfoldable pub table : List Entry → List ℕ
table es = header ++ rows es (length es)
