use Rattle.std.proofs.Common.{◌<◌, length, drop, arith}
use Rattle.std.proofs.lemmas.List.{length-drop}
use Rattle.books.specs.Meaning.{tables}
use Rattle.scanner.proofs.Steps.{is_scanned, longest_of, depends_of}
use Rattle.scanner.proofs.scans.Scanner.scan.Goals as goal

pub returns-then-get : goal.returns-then-get
returns-then-get g c =
    let t = tables c.args.self.now.book.now in
    let m = c.args.mode in
    let codes = g.S.Symbols.codes c.args.self.now.symbols.now in
    let xs = drop c.args.place codes in
    let some : 0 < length xs = omega (arith, length-drop c.args.place codes) in
    record {
      value = is_scanned t m xs _ some c.token_at.ensures;
      longest = λ h. longest_of t m xs _ some c.token_at.ensures;
      depends = λ h. depends_of t m xs _ c.token_at.ensures;
    }
