-- Sheets and corrections under the house books, worked by hand, named by their contents. t are the tables of the token book and l those of the line book.
use Rattle.std.specs.Prelude.{◌≡◌, ℕ, Some, codes}
use Rattle.books.specs.Tables.{Tables}
use Rattle.house.specs.Sheets.{WorkedSheets}
use Rattle.requests.specs.Asked.{Answered, reported, time_is, correct, time}
use Rattle.requests.specs.Sheets.{answer}

-- first, out, in and tail for the tokens, then for the lines
abbrev pub eight : ℕ → ℕ → ℕ → ℕ → ℕ → ℕ → ℕ → ℕ → Answered
eight f o i t g p j u =
    reported (record { tokens = record { first = f; out = o; «in» = i; tail = t }; lines = record { first = g; out = p; «in» = j; tail = u } })

pub record Worked (t l : Tables) : Type 0 where
  -- the tokens of five sheets
  pub sheets : WorkedSheets t
  -- a star typed behind the gap behind a chorus makes both one token; the token before the place read past it
  pub star_behind_the_gap : answer t l 100 (codes "<la> hey") (correct 5 0 (codes "*")) ≡ eight 0 2 1 1 0 1 1 0
  pub star_right_behind : answer t l 100 (codes "<la> hey") (correct 4 0 (codes "*")) ≡ eight 0 1 1 2 0 1 1 0
  pub star_in_the_word : answer t l 100 (codes "<la> hey") (correct 6 0 (codes "*")) ≡ eight 2 1 3 0 0 1 1 0
  -- an old token starts where a new one does, in another mode: no rejoin there
  pub brace_before_a_brace : answer t l 100 (codes "a}b") (correct 0 0 (codes "{")) ≡ eight 0 2 3 0 0 1 1 0
  -- no rejoin at all: the end tokens are counted
  pub brace_before_a_word : answer t l 100 (codes "a") (correct 0 0 (codes "{")) ≡ eight 0 2 3 0 0 1 1 0
  -- the fault had read the end
  pub chorus_closed : answer t l 100 (codes "<la") (correct 3 0 (codes ">")) ≡ eight 0 2 1 1 0 1 1 0
  -- the times of two stamps
  pub a_minute_and_more : answer t l 100 (codes "[01:02.50]") (time 0) ≡ time_is (Some 6250)
  pub greatest_time : answer t l 100 (codes "[99:99.99]") (time 0) ≡ time_is (Some 603999)
