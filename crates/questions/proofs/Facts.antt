-- What those above may use.
use Rattle.std.proofs.Common.{◌≡◌, ℕ, suc, List, length, arith}
use Rattle.reading.specs.Reading.{Entry}
use Rattle.reading.specs.Laws.{total_length}
use Rattle.reading.proofs.Lists.{start_step, start_within}
use Rattle.questions.specs.Loose.{LiesWithin}

-- where the lengths of all tokens, added up, give the text's length, every token lies within the text
pub lies_within : (s : List ℕ) (es : List Entry) → total_length es ≡ length s → (n : ℕ) → LiesWithin s es n
lies_within s es e n = omega (arith, start_step es n, start_within es (suc n))
