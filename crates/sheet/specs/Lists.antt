-- The lists that a sheet keeps.
use Rattle.std.specs.Prelude.{◌≡◌, ℕ, ◌<◌, ◌≤◌, List, vec_len}
use Rattle.books.specs.Meaning.{tables}
use Rattle.reading.specs.Reading.{Entry}
use Rattle.requests.specs.Sheets.{token_list, line_list}
use Rattle.sheet.specs.Kept.{entries}
use Rattle.sheet.specs.declared.parts.Parts.{Parts}
use Rattle.sheet.specs.declared.sheets.Sheet.{Sheet}

abbrev pub tokens_of : {S : Type 0} → Sheet S → List Entry
tokens_of h = entries h.tokens

abbrev pub lines_of : {S : Type 0} → Sheet S → List Entry
lines_of h = entries h.lines

-- The sheet's lists are those of the text s, in every field. Its store has room for 65535 bytes at most, and each memory has a record for each
-- byte that there is room for, and one more.
pub record Right {S : Type 0} (h : Sheet S) (s : List ℕ) (room : ℕ) : Type 0 where
  pub tokens : tokens_of h ≡ token_list (tables h.tokens.book) s
  pub lines : lines_of h ≡ line_list (tables h.tokens.book) (tables h.lines.book) s
  pub limit : room ≤ 65535
  pub token_room : room < vec_len h.tokens.memory
  pub line_room : room < vec_len h.lines.memory

-- a sheet keeps its books and the sizes of its memories
pub record Keeps {S : Type 0} (h k : Sheet S) : Type 0 where
  pub token_book : k.tokens.book ≡ h.tokens.book
  pub line_book : k.lines.book ≡ h.lines.book
  pub token_memory : vec_len k.tokens.memory ≡ vec_len h.tokens.memory
  pub line_memory : vec_len k.lines.memory ≡ vec_len h.lines.memory

-- a sheet has the books that it was made of, and memories of the same sizes
pub record MadeOf {S : Type 0} (p : Parts S) (h : Sheet S) : Type 0 where
  pub token_book : h.tokens.book ≡ p.token_book
  pub line_book : h.lines.book ≡ p.line_book
  pub token_memory : vec_len h.tokens.memory ≡ vec_len p.tokens
  pub line_memory : vec_len h.lines.memory ≡ vec_len p.lines
