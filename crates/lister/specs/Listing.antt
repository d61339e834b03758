-- What the listing program prints.
use Rattle.std.specs.Prelude.{ℕ, cond, List, [], ◌∷◌, ◌++◌, length, codes, nat_lt}
use Rattle.reading.specs.Reading.{batch}
use Rattle.house.specs.House.{house_tokens}
use Rattle.table.specs.Table.{table}

abbrev pub too_long : List ℕ
too_long = codes "too long" ++ (10 ∷ [])

-- the table of a sheet's tokens under the house token book, for a sheet of at most 4096 bytes
unfoldable pub listing : List ℕ → List ℕ
listing sheet = cond (nat_lt 4096 (length sheet)) too_long (table (batch house_tokens sheet))
