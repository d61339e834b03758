use Rattle.std.proofs.Common.{◌-◌, length}
use Rattle.books.specs.Meaning.{tables}
use Rattle.scanner.proofs.Written.{Writing}
use Rattle.scanner.proofs.lists.write_entries.Given as goal

abbrev pub invariant-loop-place : goal.invariant-loop-place
invariant-loop-place g l =
    Writing (tables l.scanner.book.now) (g.S.Symbols.codes l.scanner.symbols.now) l.initial.memory l.memory l.place l.mode l.entries

abbrev pub decreases-loop-place : goal.decreases-loop-place
decreases-loop-place g l = length (g.S.Symbols.codes l.scanner.symbols.now) - l.place
