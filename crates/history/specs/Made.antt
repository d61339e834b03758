-- What one request to a sheet comes to.
use Rattle.std.specs.Prelude.{◌≡◌, ℕ, List}
use Rattle.books.specs.Meaning.{tables}
use Rattle.requests.specs.Asked.{Asked, Answered}
use Rattle.requests.specs.Sheets.{answer, text_after}
use Rattle.sheet.specs.declared.sheets.Sheet.{Sheet}
use Rattle.sheet.specs.Lists.{Right}

-- a sheet h with the text s has become k, with the text u, by the request r, and the answer is a
pub record Made {S : Type 0} (h k : Sheet S) (s u : List ℕ) (room : ℕ) (r : Asked) (a : Answered) : Type 0 where
  pub text : u ≡ text_after room s r
  pub right : Right k u room
  pub answer_is : a ≡ answer (tables h.tokens.book) (tables h.lines.book) room s r
