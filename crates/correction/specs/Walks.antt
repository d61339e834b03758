-- What is known of a list and its text where a correction is made.
use Rattle.std.specs.Prelude.{◌≡◌, ℕ, ◌+◌, ◌<◌, ◌≤◌, List, length}
use Rattle.books.specs.Tables.{Tables}
use Rattle.reading.specs.Reading.{Entry, reach, batch}
use Rattle.reading.specs.Report as report

-- the list is that of a text xs, which the edit has turned into ys; neither text has more symbols than there is room for
pub record Met (t : Tables) (e : report.Edit) (xs ys : List ℕ) (old : List Entry) (room : ℕ) : Type 0 where
  pub list : old ≡ batch t xs
  pub edited : report.Edited e xs ys
  pub room_before : length xs < room
  pub room_after : length ys < room

-- the entries from one number on and before another reach no further than the limit
abbrev pub Within : List Entry → ℕ → ℕ → ℕ → Type 0
Within es from to limit = (i : ℕ) → from ≤ i → i < to → reach es i ≤ limit

-- A walk has found the rejoin: behind `added` new entries, at old entry k. No new entry before it reaches further than the limit, nor, where entries
-- are kept, an old one further than the limit lay before the edit
pub record Walked (t : Tables) (e : report.Edit) (xs ys : List ℕ) (added k limit : ℕ) : Type 0 where
  pub rejoin : report.rejoin (batch t xs) (batch t ys) e ≡ report.first (batch t xs) e.place + added
  pub rejoined : report.rejoined (batch t xs) (batch t ys) e ≡ k
  pub new_reach : Within (batch t ys) (report.first (batch t xs) e.place) (report.first (batch t xs) e.place + added) limit
  pub old_reach : report.first (batch t xs) e.place + added < length (batch t ys) →
      (o : ℕ) × Within (batch t xs) (report.first (batch t xs) e.place) k o × (o + e.inserted ≤ limit + e.cut)
