-- Song sheets read under the token book with tables t, worked by hand: each token is (kind, length, reading, mode, lookback).
use Rattle.std.specs.Prelude.{◌≡◌, [], ◌∷◌, codes}
use Rattle.books.specs.Tables.{Tables}
use Rattle.reading.specs.Reading.{entry, batch}

pub record WorkedSheets (t : Tables) : Type 0 where
  pub empty : batch t [] ≡ entry 1 0 1 0 0 ∷ []
  pub chorus : batch t (codes "<la>") ≡ entry 7 4 5 0 0 ∷ entry 1 0 1 0 1 ∷ []
  pub starred_chorus : batch t (codes "<la> *") ≡ entry 8 6 6 0 0 ∷ entry 1 0 1 0 0 ∷ []
  -- the chorus has read on to see whether a star comes
  pub chorus_and_word : batch t (codes "<la> hey") ≡ entry 7 4 6 0 0 ∷ entry 2 1 2 0 1 ∷ entry 3 3 4 0 2 ∷ entry 1 0 1 0 1 ∷ []
  -- the fault has read to the end, which counts as one
  pub open_chorus : batch t (codes "<la") ≡ entry 0 1 4 0 0 ∷ entry 3 2 3 0 1 ∷ entry 1 0 1 0 2 ∷ []
