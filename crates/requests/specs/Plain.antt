-- Requests and answers of the code, as plain values.
use Rattle.std.specs.Prelude.{ℕ, List, Ok, Err, vec_items, Result}
use Rattle.requests.specs.declared.requests.Request.{Request}
use Rattle.requests.specs.declared.requests.Request.TheVariants as asks
use Rattle.requests.specs.declared.answers.Answer.{Answer}
use Rattle.requests.specs.declared.answers.Answer.TheVariants as gives
use Rattle.requests.specs.declared.faults.SheetFault.{SheetFault}
use Rattle.requests.specs.Asked.{Asked, correct, token, line, where_is, time, copy, alike, Reports, Answered, refused, reported, entry_is, stands, time_is, copied, not_copied, alike_is}
use Rattle.requests.specs.Told.{told}

abbrev pub asked : Request → Asked
asked (asks.Correct a c i) = correct a c (vec_items i)
asked (asks.Token n) = token n
asked (asks.Line n) = line n
asked (asks.Where p) = where_is p
asked (asks.Time n) = time n
asked (asks.Copy n b) = copy n (vec_items b)
asked (asks.Alike a b) = alike a b

abbrev pub corrected : Result Reports SheetFault → Answered
corrected (Ok r) = reported r
corrected (Err f) = refused (told f)

abbrev pub copied_as : Result ℕ SheetFault → List ℕ → Answered
copied_as (Ok n) b = copied n b
copied_as (Err f) b = not_copied (told f) b

abbrev pub answered : Answer → Answered
answered (gives.Corrected r) = corrected r
answered (gives.Token o) = entry_is o
answered (gives.Line o) = entry_is o
answered (gives.Where o) = stands o
answered (gives.Time o) = time_is o
answered (gives.Copied n b) = copied_as n (vec_items b)
answered (gives.Alike o) = alike_is o
