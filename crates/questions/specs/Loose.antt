-- Answers from a list that need not be the text's.
use Rattle.std.specs.Prelude.{ℕ, ◌+◌, ◌≤◌, cond, List, ◌++◌, length, drop, nat_le, nat_lt}
use Rattle.reading.specs.Reading.{Entry, at, start}
use Rattle.requests.specs.Asked.{Answered, copied, not_copied}
use Rattle.requests.specs.Sheets.{bytes_of, no_token, short_buffer}

-- token n lies within text s, as every token of the text's own list does
abbrev pub LiesWithin : List ℕ → List Entry → ℕ → Type 0
LiesWithin s es n = start es n + (at es n).length ≤ length s

-- a copy as it is defined for the text's own list, but that bytes which the text lacks leave the buffer there as it was
unfoldable pub copy_from : List ℕ → List Entry → ℕ → List ℕ → Answered
copy_from s es n buffer =
    cond (nat_lt n (length es))
    (cond (nat_le (at es n).length (length buffer))
    (copied (at es n).length (bytes_of s es n ++ drop (length (bytes_of s es n)) buffer))
    (not_copied (short_buffer (at es n).length) buffer))
    (not_copied (no_token n) buffer)
