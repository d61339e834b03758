use Rattle.std.proofs.Common.{◌≡◌, length, ap, ap₂, ◌∙◌, arith}
use Rattle.books.specs.Meaning.{tables}
use Rattle.books.proofs.Facts.{book_sound}
use Rattle.reading.specs.Reading.{read, batch}
use Rattle.reading.proofs.Batch.{reads, looks_back}
use Rattle.scanner.proofs.Whole.{Pass, answer_some, whole_fit, whole_part, whole_size, whole_list, whole_rest, whole_within}
use Rattle.scanner.proofs.lists.read_all.Given as given
use Rattle.scanner.proofs.lists.read_all.Goals as goal

pub returns-in_err-scanner-clause-reads : goal.returns-in_err-scanner-clause-reads
returns-in_err-scanner-clause-reads g c = reads (tables c.args.book.now) (book_sound c.args.book.now) (g.S.Symbols.codes c.args.symbols.now)

pub returns-in_err-scanner-clause-looks_back : goal.returns-in_err-scanner-clause-looks_back
returns-in_err-scanner-clause-looks_back g c = looks_back (tables c.args.book.now) (book_sound c.args.book.now) (g.S.Symbols.codes c.args.symbols.now)

pub set_lookbacks-requires-clause-fit : goal.set_lookbacks-requires-clause-fit
set_lookbacks-requires-clause-fit g c =
    whole_fit (tables c.args.book.now) (g.S.Symbols.codes c.args.symbols.now) c.args.memory.now c.write_entries-entries.new.memory c.write_entries-entries.result
    (record {
      within = c.write_entries-entries.ensures.within;
      written = c.write_entries-entries.ensures.written ∙ ap₂ (λ t xs. read t 0 0 xs) (ap tables c.in_ok-scanner.ensures.1) (ap (λ s. g.S.Symbols.codes s) c.in_ok-scanner.ensures.2);
      rest = c.write_entries-entries.ensures.rest;
    })
    (omega (arith, c.in_ok-scanner.ensures.0))

-- what the first pass has written
written : (g : given.Over) (c : goal.After-of g) → Pass (tables c.args.book.now) (g.S.Symbols.codes c.args.symbols.now) c.args.memory.now c.write_entries-entries.new.memory c.write_entries-entries.result
written g c =
    let w = c.write_entries-entries.ensures in
    record {
      within = w.within;
      written = w.written ∙ ap₂ (λ t xs. read t 0 0 xs) (ap tables c.in_ok-scanner.ensures.1) (ap (λ s. g.S.Symbols.codes s) c.in_ok-scanner.ensures.2);
      rest = w.rest;
    }

-- what the second pass has come to
listed : (g : given.Over) (c : goal.After-of g) → c.set_lookbacks.new.entries ≡ batch (tables c.args.book.now) (g.S.Symbols.codes c.args.symbols.now)
listed g c = whole_part _ _ _ _ _ (written g c) _ _ c.first-2.ensures.number c.set_lookbacks.ensures

pub returns-clause-answer : goal.returns-clause-answer
returns-clause-answer g c =
    answer_some (length c.args.memory.now) _ _ c.of.result (omega (arith, c.in_ok-scanner.ensures.0)) (whole_size _ _ _ _ _ (written g c) _ (listed g c) c.of.result c.of.ensures)

pub returns-clause-memory : goal.returns-clause-memory
returns-clause-memory g c = (
  whole_list _ _ _ _ _ (written g c) _ (listed g c) c.of.result c.of.ensures,
  whole_rest _ _ _ _ _ (written g c) _ (listed g c) c.of.result c.of.ensures,
)

pub returns-clause-within : goal.returns-clause-within
returns-clause-within g c = whole_within _ _ _ _ _ (written g c) _ (listed g c) c.of.result c.of.ensures

pub returns-clause-reads : goal.returns-clause-reads
returns-clause-reads g c = reads (tables c.args.book.now) (book_sound c.args.book.now) (g.S.Symbols.codes c.args.symbols.now)

pub returns-clause-looks_back : goal.returns-clause-looks_back
returns-clause-looks_back g c = looks_back (tables c.args.book.now) (book_sound c.args.book.now) (g.S.Symbols.codes c.args.symbols.now)
