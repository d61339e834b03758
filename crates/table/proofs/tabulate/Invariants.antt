use Rattle.std.proofs.Common.{◌≡◌, ◌++◌, string_bytes}
use Rattle.reading.specs.Reading.{start}
use Rattle.table.specs.Table.{header, rows}
use Rattle.table.proofs.tabulate.Given as goal

abbrev pub invariant-loop-number : goal.invariant-loop-number
invariant-loop-number g l = (l.start ≡ start l.entries l.number) × (string_bytes l.out ≡ header ++ rows l.entries l.number)
