-- What re-reading after an edit promises.
use Rattle.std.specs.Prelude.{◌≡◌, ℕ, List, length, take, Option, MatchOption}
use Rattle.books.specs.Tables.{Tables}
use Rattle.reading.specs.Reading.{Entry, batch}
use Rattle.reading.specs.Report as report
use Rattle.correction.specs.declared.edits.Reread.{Reread}
use Rattle.correction.specs.Walks.{Met}

-- the list is that of the text ys now, its entries are counted, and the report is the one defined for the two texts' lists: it covers
-- all that has changed
pub record Brought (t : Tables) (e : report.Edit) (xs ys : List ℕ) (count : ℕ) (after : List Entry) (r : report.Report) : Type 0 where
  pub count_is : count ≡ length (batch t ys)
  pub list : after ≡ batch t ys
  pub report_is : r ≡ report.report (batch t xs) (batch t ys) e
  pub covers : report.Covers (batch t xs) (batch t ys) r

-- Whatever text xs the list was read from, which the edit has turned into ys, it is brought up to date; there is no refusal
abbrev pub Rereads : {B : Type 0} → Tables → report.Edit → List ℕ → List Entry → ℕ → Option (Reread B) → List Entry → Type 0
Rereads t e ys before count answer after =
    (xs : List ℕ) → Met t e xs ys (take count before) (length before) →
    MatchOption answer ⊥ (λ a. Brought t e xs ys a.count (take a.count after) a.report)
