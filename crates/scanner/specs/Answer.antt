-- What a batch reading into memory answers.
use Rattle.std.specs.Prelude.{ℕ, cond, Some, None, Option, nat_lt}

-- the number of entries, or none where the memory has not a record for each symbol and one for the end token
abbrev pub answer : ℕ → ℕ → ℕ → Option ℕ
answer records symbols entries = cond (nat_lt symbols records) (Some entries) None
