-- The tables that a book holds.
use Rattle.books.specs.declared.book.Book.{Book}
use Rattle.books.specs.Tables.{Tables}
use Rattle.books.specs.Plans.{held}

abbrev pub tables : Book → Tables
tables b = (held b.copies).tables
