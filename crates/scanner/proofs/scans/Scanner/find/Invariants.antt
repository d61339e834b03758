use Rattle.std.proofs.Common.{◌+◌, ◌-◌, ◌<◌, length, IfSome}
use Rattle.books.specs.Meaning.{tables}
use Rattle.scanner.specs.Scanned.{match_length, match_rule}
use Rattle.scanner.proofs.Steps.{Scanning}
use Rattle.scanner.proofs.scans.Scanner.find.Given as goal

abbrev pub invariant-loop-symbol : goal.invariant-loop-symbol
invariant-loop-symbol g l =
    Scanning (tables l.self.book.now) (g.S.Symbols.codes l.self.symbols.now) l.mode l.place l.state l.reading (match_length l.longest) (match_rule l.longest) × IfSome l.longest (λ m. 0 < m.length)

abbrev pub decreases-loop-symbol : goal.decreases-loop-symbol
decreases-loop-symbol g l = length (g.S.Symbols.codes l.self.symbols.now) - (l.place + l.reading)
