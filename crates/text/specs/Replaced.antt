-- What a replace does to a text.
use Rattle.std.specs.Prelude.{ℕ, ◌+◌, List, ◌++◌, take, drop}

-- the bytes of s before place a, then the bytes i, then those of s from a + c on
abbrev pub replaced : List ℕ → ℕ → ℕ → List ℕ → List ℕ
replaced s a c i = take a s ++ (i ++ drop (a + c) s)
