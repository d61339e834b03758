-- Requests to a sheet and the answers to them, as plain values.
use Rattle.std.specs.Prelude.{ℕ, Bool, List, Option}
use Rattle.counts.specs.declared.Refusal.{Refusal}
use Rattle.reading.specs.Reading.{Entry}
use Rattle.reading.specs.Report.{Report}

pub data Asked : Type 0 where
  -- cut bytes at a place, and insert others
  correct : ℕ → ℕ → List ℕ → Asked
  token : ℕ → Asked
  line : ℕ → Asked
  where_is : ℕ → Asked
  time : ℕ → Asked
  -- a token's bytes into a buffer
  copy : ℕ → List ℕ → Asked
  alike : ℕ → ℕ → Asked

-- the reports of a correction: for the tokens, then for the lines
pub record Reports : Type 0 where
  pub tokens : Report
  pub lines : Report

pub data Answered : Type 0 where
  refused : Refusal → Answered
  reported : Reports → Answered
  entry_is : Option Entry → Answered
  -- a token's number, and the offset inside it
  stands : Option (ℕ × ℕ) → Answered
  time_is : Option ℕ → Answered
  -- how many bytes were copied, or why none; and the buffer after
  copied : ℕ → List ℕ → Answered
  not_copied : Refusal → List ℕ → Answered
  alike_is : Option Bool → Answered
