use Rattle.std.proofs.Common.{◌≡◌, ℕ, ◌+◌, ◌-◌, ◌^◌, ◌<◌, ◌≤◌, min, List, length}
use Rattle.books.specs.Meaning.{tables}
use Rattle.books.proofs.Facts.{book_sound}
use Rattle.reading.specs.Report.{first}
use Rattle.correction.specs.Boundaries.{Stands}
use Rattle.correction.specs.Walks.{Met}
use Rattle.correction.proofs.Meets.{Onward}
use Rattle.correction.proofs.walks.walk.Given as goal

abbrev pub invariant-loop-here : goal.invariant-loop-here
invariant-loop-here g l =
    let codes = g.S.Symbols.codes l.scanner.symbols.now in
    let book = l.scanner.book.now in
    record {
      here : l.here ≤ length codes;
      added : l.added ≤ l.here;
      on : l.fn.from.at.number ≤ l.old.to.at.number;
      within : l.old.to.at.number ≤ length l.entries;
      behind : l.behind ≡ min (l.edit.place + l.edit.inserted) (2 ^ 64 - 1);
      onward : (xs : List ℕ) (room : ℕ) (small : room < 2 ^ 64) (met : Met (tables book) l.edit xs codes l.entries room) →
          l.fn.from.at.number ≡ first l.entries l.edit.place → Stands l.entries l.fn.from →
          Onward (tables book) (book_sound book) l.edit xs codes l.entries room small met l.added l.mode l.here l.old.to.at.number l.old.to.at.start l.old.to.mode l.old.reach l.reach;
    }

abbrev pub decreases-loop-here : goal.decreases-loop-here
decreases-loop-here g l = length (g.S.Symbols.codes l.scanner.symbols.now) - l.here
