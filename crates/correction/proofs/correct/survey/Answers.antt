use Rattle.std.proofs.Common.{◌≡◌, ◌^◌, ◌<◌, length, take, ap, ◌∙◌, arith}
use Rattle.std.proofs.lemmas.List.{length-take-le}
use Rattle.books.specs.Meaning.{tables}
use Rattle.books.proofs.Facts.{book_sound}
use Rattle.reading.specs.Report.{first}
use Rattle.correction.proofs.Meets.{met_fit}
use Rattle.correction.proofs.Brings.{first_there, first_starts, room_for}
use Rattle.correction.proofs.correct.survey.Goals as goal
use Rattle.correction.proofs.correct.survey.Goals.{then-count-number-via-then-count-number, then-count-number-via-else-count-number+then-get-start}

pub returns-then-count-number-clause-planned : goal.returns-then-count-number-clause-planned
returns-then-count-number-clause-planned g c xs met =
    let book = c.args.scanner.now.book.now in
    let codes = g.S.Symbols.codes c.args.scanner.now.symbols.now in
    let room = length c.args.memory.now in
    let es = take c.args.count c.args.memory.now in
    let n = c.find_first-first.result.at.number in
    let size = length-take-le c.args.count c.args.memory.now (omega arith) in
    let found = c.find_first-first.ensures.first (met_fit (tables book) (book_sound book) c.args.edit xs codes es room (omega arith) met) in
    let is : n ≡ first es c.args.edit.place = found.0 ∙ ap (λ e. first es e.place) c.edit.view_is in
    let there = first_there (tables book) (book_sound book) c.args.edit xs codes es room met n is in
    let starts = first_starts (tables book) (book_sound book) c.args.edit xs codes es room met n is in
    elim c.then-count-number.branch [
      | then-count-number-via-then-count-number w ↦ omega (arith, w.if-count-number.true, there, size)
      | then-count-number-via-else-count-number+then-get-start w ↦ omega (arith, w.if-get-start.true, w.get.ensures, w.count.ensures, w.start.ensures, found.1.0, starts)
    ]

pub returns-then-memory-number-clause-planned : goal.returns-then-memory-number-clause-planned
returns-then-memory-number-clause-planned g c xs met =
    let book = c.args.scanner.now.book.now in
    let codes = g.S.Symbols.codes c.args.scanner.now.symbols.now in
    let room = length c.args.memory.now in
    let es = take c.args.count c.args.memory.now in
    let n = c.find_first-first.result.at.number in
    let size = length-take-le c.args.count c.args.memory.now (omega arith) in
    let small : room < 2 ^ 64 = omega arith in
    let found = c.find_first-first.ensures.first (met_fit (tables book) (book_sound book) c.args.edit xs codes es room small met) in
    let is : n ≡ first es c.args.edit.place = found.0 ∙ ap (λ e. first es e.place) c.edit.view_is in
    let walked = c.walk-meeting.ensures.walked xs room small met is found.1 in
    let fits = room_for (tables book) (book_sound book) c.args.edit xs codes es room met n is _ _ _ walked in
    omega (arith, fits, size)

pub returns-clause-planned : goal.returns-clause-planned
returns-clause-planned g c xs met =
    let book = c.args.scanner.now.book.now in
    let codes = g.S.Symbols.codes c.args.scanner.now.symbols.now in
    let room = length c.args.memory.now in
    let es = take c.args.count c.args.memory.now in
    let n = c.find_first-first.result.at.number in
    let small : room < 2 ^ 64 = omega arith in
    let found = c.find_first-first.ensures.first (met_fit (tables book) (book_sound book) c.args.edit xs codes es room small met) in
    let is : n ≡ first es c.args.edit.place = found.0 ∙ ap (λ e. first es e.place) c.edit.view_is in
    record {
      first_is = is;
      stands = found.1;
      walked = c.walk-meeting.ensures.walked xs room small met is found.1;
      reader_is = c.look_back-reader.ensures.number;
      reader_stands = c.look_back-reader.ensures.stands found.1.0;
    }
