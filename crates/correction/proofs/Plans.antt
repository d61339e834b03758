-- A list brought up to date by its plan.
use Rattle.std.proofs.Common.{◌≡◌, ℕ, ◌+◌, ◌-◌, ◌^◌, ◌<◌, ◌≤◌, List, ◌++◌, length, take, drop, sym, ◌∙◌, arith}
use Rattle.books.specs.Tables.{Tables}
use Rattle.books.specs.Sound.{Sound}
use Rattle.reading.specs.Reading.{Entry, read, batch}
use Rattle.reading.specs.Report.{Edit, Report}
use Rattle.scanner.specs.Spots.{Stands}
use Rattle.correction.specs.declared.correct.Plan.{Plan}
use Rattle.correction.specs.Walks.{Met}
use Rattle.correction.specs.Plans.{Planned}
use Rattle.correction.specs.Lookbacks.{Awaits, Given}
use Rattle.correction.specs.Promise.{Brought}
use Rattle.correction.proofs.Brings as lists

module _ {L B : Type 0} (t : Tables) (b : Sound t) (e : Edit) (xs ys : List ℕ) (es : List Entry) (room : ℕ) (small : room < 2 ^ 64) (met : Met t e xs ys es room)
    (p : Plan L B) (planned : Planned t e xs ys es p) where
  abbrev f : ℕ
  f = p.first.at.number

  abbrev added : ℕ
  added = p.meeting.added

  abbrev k : ℕ
  k = p.meeting.old

  abbrev limit : ℕ
  limit = p.meeting.reach

  -- what is read from the first entry on
  abbrev pub again : List Entry
  again = read t p.first.mode 0 (drop p.first.at.start ys)

  -- the new entries are there to be read
  pub added_within : added ≤ length again
  added_within = lists.added_within t b e xs ys es room small met f p.first.at.start p.first.mode added k limit planned.first_is planned.stands.0 planned.stands.1 planned.walked

  -- the list as it was put, and given its lookbacks, is that of the text after the edit
  pub brings : (now : List Entry) → now ≡ take f es ++ (take added again ++ drop k es) → (after : List Entry) (behind tail : ℕ) → behind ≡ f + added →
      ((goal : List Entry) → Stands now p.reader → Stands now p.first.at → Awaits now goal f p.reader.number → Given now goal after f behind limit tail) →
      (count : ℕ) → count ≡ length now → (r : Report) → r ≡ record { first = f; out = k - f; «in» = added; tail = tail } → Brought t e xs ys count after r
  brings now now-is after behind tail behind-is give =
      let same_start = lists.now_start t b e xs ys es room small met f p.first.at.start p.first.mode added k limit planned.first_is planned.stands.0 planned.stands.1 planned.walked now now-is in
      let awaits = lists.now_awaits t b e xs ys es room small met f p.first.at.start p.first.mode added k limit planned.first_is planned.stands.0 planned.stands.1 planned.walked now now-is p.reader.number planned.reader_is in
      lists.brings t b e xs ys es room small met f p.first.at.start p.first.mode added k limit planned.first_is planned.stands.0 planned.stands.1 planned.walked now now-is after behind tail behind-is
      (give (batch t ys) (planned.reader_stands ∙ sym (same_start p.reader.number (omega (arith, planned.reader_is)))) (planned.stands.0 ∙ sym (same_start f (omega arith))) awaits)
