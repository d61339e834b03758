-- The bytes of a table.
use Rattle.std.specs.Prelude.{ℕ, List, take}
use Rattle.books.specs.declared.table.Table.{Table}

abbrev pub items : {n : ℕ} → Table n → List ℕ
items t = take t.len t.bytes
