use Rattle.std.proofs.Common.{◌≡◌, length, take}
use Rattle.std.proofs.lemmas.List.{take_min}
use Rattle.books.specs.Meaning.{tables}
use Rattle.correction.specs.Walks.{Met}
use Rattle.correction.proofs.correct.reread.Goals as goal

pub returns-clause-rereads : goal.returns-clause-rereads
returns-clause-rereads g c xs met =
    let scanner = c.in_ok-scanner.scanner in
    let memory = c.args.memory.now in
    let list : take c.min-count.result memory ≡ take c.args.count memory = cc (take_min c.args.count memory) in
    let here : Met (tables scanner.book.now) c.args.edit xs (g.S.Symbols.codes scanner.symbols.now) (take c.min-count.result memory) (length memory) =
    rw (c.in_ok-scanner.ensures.1, c.in_ok-scanner.ensures.2, list) met in
    rw (← c.in_ok-scanner.ensures.1, ← c.in_ok-scanner.ensures.2) (c.rewrite.ensures.brought c.args.edit xs here (c.in_ok-plan.ensures.planned xs here))
