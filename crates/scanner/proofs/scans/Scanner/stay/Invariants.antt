use Rattle.std.proofs.Common.{◌≡◌, ◌+◌, ◌-◌, ◌≤◌, false, length}
use Rattle.books.specs.Tables.{closed}
use Rattle.books.specs.Meaning.{tables}
use Rattle.scanner.specs.Scanned.{Stays}
use Rattle.scanner.proofs.scans.Scanner.stay.Given as goal

abbrev pub invariant-loop-code : goal.invariant-loop-code
invariant-loop-code g l =
    (l.place + l.count ≤ length (g.S.Symbols.codes l.self.symbols.now)) ×
    Stays (tables l.self.book.now) (g.S.Symbols.codes l.self.symbols.now) l.state l.place l.count ×
    (closed (tables l.self.book.now) l.state ≡ false)

abbrev pub decreases-loop-code : goal.decreases-loop-code
decreases-loop-code g l = length (g.S.Symbols.codes l.self.symbols.now) - (l.place + l.count)
