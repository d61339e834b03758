-- What is known where no question to an opening gets a no.
use Rattle.std.proofs.Common.{◌≡◌, ℕ, ◌<◌, ◌≤◌, None, arith}
use Rattle.std.proofs.lemmas.Bool.Decides.{nat_tests}
use Rattle.sheet.specs.Opening.{unopened}

pub record Fits (capacity tokens lines : ℕ) : Type 0 where
  pub limit : capacity ≤ 65535
  pub token_room : capacity < tokens
  pub line_room : capacity < lines

pub fits : (capacity tokens lines : ℕ) → unopened capacity tokens lines ≡ None → Fits capacity tokens lines
fits capacity tokens lines e = record { limit = grind (arith, nat_tests); token_room = grind (arith, nat_tests); line_room = grind (arith, nat_tests) }
