-- The check asks all its questions of these tables and says yes, by computation. What is promised of the tables holds of the book that has them.
use Rattle.std.proofs.Common.{refl, sym, subst}
use Rattle.books.specs.Check.{fault}
use Rattle.house.specs.House.{house_lines}
use Rattle.house.specs.Meaning.{LinesRight}
use Rattle.house.proofs.LineMeaning.{lines_right}
use Rattle.house.proofs.lines.line_book.Goals as goal

pub sound-requires : goal.sound-requires
unfolding fault
sound-requires c = refl

pub returns : goal.returns
unfolding house_lines
returns c = record { value = c.sound.ensures; lines = subst LinesRight (sym c.sound.ensures) lines_right }
