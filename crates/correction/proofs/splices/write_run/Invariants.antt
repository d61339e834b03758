use Rattle.std.proofs.Common.{drop}
use Rattle.books.specs.Meaning.{tables}
use Rattle.reading.specs.Reading.{read}
use Rattle.correction.proofs.Runs.{Running}
use Rattle.correction.proofs.splices.write_run.Given as goal

abbrev pub invariant-loop-slot : goal.invariant-loop-slot
invariant-loop-slot g l =
    let t = tables l.scanner.book.now in
    let codes = g.S.Symbols.codes l.scanner.symbols.now in
    Running t codes (read t l.fn.from.mode 0 (drop l.fn.from.at.start codes)) l.slot-items l.slot-index l.place l.mode
