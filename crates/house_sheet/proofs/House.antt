-- The worked corrections, by computation under the house tables.
use Rattle.std.proofs.Common.{◌≡◌, refl, sym, subst, subst₂}
use Rattle.books.specs.Tables.{Tables}
use Rattle.reading.specs.Reading.{token, read, batch}
use Rattle.reading.specs.Report.{report}
use Rattle.house.specs.House.{house_tokens, house_lines}
use Rattle.house.specs.Sheets.{WorkedSheets}
use Rattle.requests.specs.Sheets.{answer, reports, time_of}
use Rattle.house_sheet.specs.Worked.{Worked}

pub worked : WorkedSheets house_tokens → Worked house_tokens house_lines
unfolding answer reports report batch read token house_tokens house_lines time_of
worked sheets =
    record {
      sheets = sheets;
      star_behind_the_gap = refl;
      star_right_behind = refl;
      star_in_the_word = refl;
      brace_before_a_brace = refl;
      brace_before_a_word = refl;
      chorus_closed = refl;
      a_minute_and_more = refl;
      greatest_time = refl;
    }

-- and under whatever tables are those
pub worked_under : (t l : Tables) → t ≡ house_tokens → l ≡ house_lines → WorkedSheets t → Worked t l
worked_under t l ts ls sheets = subst₂ Worked (sym ts) (sym ls) (worked (subst WorkedSheets ts sheets))
