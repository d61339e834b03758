-- What a book's tables mean: an automaton over symbol codes.
-- A byte's code is the byte; a token's code is its kind.
use Rattle.std.specs.Prelude.{ℕ, ◌+◌, ◌*◌, Bool, true, ◌&&◌, List, [], ◌∷◌, Some, None, Option, ◌==◌, if◌then◌else◌, slice_index, slice_index_or}

-- width is the number of classes, and so of the entries in a row of the step table
pub record Tables : Type 0 where
  pub width : ℕ
  pub classes : List ℕ
  pub steps : List ℕ
  pub accepts : List ℕ
  pub rules : List ℕ
  pub starts : List ℕ

abbrev pub class : Tables → ℕ → ℕ
class t x = slice_index t.classes x

-- the next state, or 255 for none
abbrev pub step : Tables → ℕ → ℕ → ℕ
step t s x = slice_index_or t.steps (s * t.width + class t x) 255

-- what a table's byte names: nothing where it is 255
abbrev pub present : ℕ → Option ℕ
present x = if x == 255 then None else Some x

-- the rule that a state accepts, or 255 for none
abbrev pub accept : Tables → ℕ → ℕ
accept t s = slice_index_or t.accepts s 255

abbrev pub kind_of : Tables → ℕ → ℕ
kind_of t r = slice_index t.rules (2 * r)

abbrev pub next_mode : Tables → ℕ → ℕ
next_mode t r = slice_index t.rules (2 * r + 1)

abbrev pub start_state : Tables → ℕ → ℕ
start_state t m = slice_index t.starts m

-- no class of the list has a step in state s
abbrev pub no_step : Tables → ℕ → List ℕ → Bool
no_step t s [] = true
no_step t s (k ∷ ks) = slice_index_or t.steps (s * t.width + k) 255 == 255 && no_step t s ks

-- a state is closed when no code has a step there; a class that no code is given does not count
abbrev pub closed : Tables → ℕ → Bool
closed t s = no_step t s t.classes
