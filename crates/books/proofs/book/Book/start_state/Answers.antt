use Rattle.books.proofs.Facts.{book_start_within}
use Rattle.books.proofs.book.Book.start_state.Goals as goal

pub returns-clause-within : goal.returns-clause-within
returns-clause-within c = rw c.entry.ensures (book_start_within c.args.self.now _)
