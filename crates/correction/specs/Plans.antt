-- What is known of a list before it is written.
use Rattle.std.specs.Prelude.{◌≡◌, ℕ, ◌+◌, ◌-◌, ◌<◌, ◌≤◌, List}
use Rattle.books.specs.Tables.{Tables}
use Rattle.reading.specs.Reading.{Entry, at}
use Rattle.reading.specs.Report as report
use Rattle.scanner.specs.Spots as spots
use Rattle.correction.specs.declared.correct.Plan.{Plan}
use Rattle.correction.specs.Boundaries.{Stands}
use Rattle.correction.specs.Walks.{Walked}

-- the plan keeps within the list's `count` entries, and what comes of it within the room
pub record KeepsWithin {L B : Type 0} (count room : ℕ) (p : Plan L B) : Type 0 where
  pub first : p.first.at.number < count
  pub on : p.first.at.number ≤ p.meeting.old
  pub to : p.meeting.old ≤ count
  pub behind : p.reader.number ≤ p.first.at.number
  pub fits : p.first.at.number + p.meeting.added + (count - p.meeting.old) ≤ room

-- the plan has the first entry that is read again, where the readings meet, and the earliest entry that reads the first one's start
pub record Planned {L B : Type 0} (t : Tables) (e : report.Edit) (xs ys : List ℕ) (es : List Entry) (p : Plan L B) : Type 0 where
  pub first_is : p.first.at.number ≡ report.first es e.place
  pub stands : Stands es p.first
  pub walked : Walked t e xs ys p.meeting.added p.meeting.old p.meeting.reach
  pub reader_is : p.reader.number ≡ p.first.at.number - (at es p.first.at.number).lookback
  pub reader_stands : spots.Stands es p.reader
