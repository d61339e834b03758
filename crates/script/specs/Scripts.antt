-- What a script says: its lines in order, each taken into what the lines before it said.
use Rattle.std.specs.Prelude.{ℕ, ◌+◌, Bool, true, false, cond, not, List, [], ◌∷◌, ◌++◌, length, Some, None, Ok, Err, Option, Result, ◌==◌}
use Rattle.std.specs.Option.{unwrap_or}
use Rattle.books.specs.Check.{Plan}
use Rattle.requests.specs.Asked.{Asked}
use Rattle.script.specs.declared.scripts.StoreKind.{StoreKind}
use Rattle.script.specs.declared.scripts.StoreKind.TheVariants.{Gap}
use Rattle.script.specs.declared.wrong.Wrong.{Wrong}
use Rattle.script.specs.declared.wrong.Wrong.TheVariants.{Twice, Late}
use Rattle.script.specs.Commands as says
use Rattle.script.specs.Commands.{command_of}
use Rattle.script.specs.Steps.{on}

-- a line ends at a newline; the last may go without one
abbrev pub onto_first : ℕ → List (List ℕ) → List (List ℕ)
onto_first b [] = (b ∷ []) ∷ []
onto_first b (l ∷ ls) = (b ∷ l) ∷ ls

abbrev pub lines_of : List ℕ → List (List ℕ)
lines_of [] = []
lines_of (b ∷ bs) = cond (b == 10) ([] ∷ lines_of bs) (onto_first b (lines_of bs))

-- what the lines so far said; what is none was not said
pub record Heard : Type 0 where
  pub store : Option (StoreKind × ℕ)
  pub text : Option (List ℕ)
  pub memory : Option (ℕ × ℕ)
  pub token_book : Option Plan
  pub line_book : Option Plan
  pub requests : List Asked

abbrev pub silence : Heard
silence = record { store = None; text = None; memory = None; token_book = None; line_book = None; requests = [] }

-- set-up comes before the first request, each kind of it at most once
abbrev pub filled : {X : Type 0} → Bool → Option X → X → Result (Option X) Wrong
filled true o x = Err Late
filled false None x = Ok (Some x)
filled false (Some y) x = Err Twice

abbrev pub has_asked : Heard → Bool
has_asked h = not (length h.requests == 0)

abbrev pub with_store : Heard → Option (StoreKind × ℕ) → Heard
with_store h x = record h { store = x }

abbrev pub with_text : Heard → Option (List ℕ) → Heard
with_text h x = record h { text = x }

abbrev pub with_memory : Heard → Option (ℕ × ℕ) → Heard
with_memory h x = record h { memory = x }

abbrev pub with_token_book : Heard → Option Plan → Heard
with_token_book h x = record h { token_book = x }

abbrev pub with_line_book : Heard → Option Plan → Heard
with_line_book h x = record h { line_book = x }

abbrev pub with_requests : Heard → List Asked → Heard
with_requests h x = record h { requests = x }

abbrev pub taken_in : Heard → says.Instruction → Result Heard Wrong
taken_in h (says.store k n) = on (filled (has_asked h) h.store (k, n)) (λ o. Ok (with_store h o))
taken_in h (says.opening_text t) = on (filled (has_asked h) h.text t) (λ o. Ok (with_text h o))
taken_in h (says.memory t l) = on (filled (has_asked h) h.memory (t, l)) (λ o. Ok (with_memory h o))
taken_in h (says.token_book p) = on (filled (has_asked h) h.token_book p) (λ o. Ok (with_token_book h o))
taken_in h (says.line_book p) = on (filled (has_asked h) h.line_book p) (λ o. Ok (with_line_book h o))
taken_in h (says.ask r) = Ok (with_requests h (h.requests ++ (r ∷ [])))

-- empty lines and those that begin with # are passed over
abbrev pub line_in : Heard → List ℕ → Result Heard Wrong
line_in h [] = Ok h
line_in h (b ∷ bs) = cond (b == 35) (Ok h) (on (command_of (b ∷ bs)) (λ c. taken_in h c))

-- the lines from number n on: what they say behind what was heard, or the number of the first that breaks the rules and what is wrong with it
abbrev pub at_line : ℕ → Result Heard Wrong → (Heard → Result Heard (ℕ × Wrong)) → Result Heard (ℕ × Wrong)
at_line n (Ok h) more = more h
at_line n (Err w) more = Err (n, w)

abbrev pub told : ℕ → Heard → List (List ℕ) → Result Heard (ℕ × Wrong)
told n h [] = Ok h
told n h (l ∷ ls) = at_line n (line_in h l) (λ k. told (n + 1) k ls)

-- a sheet to be opened, and the requests to it; a book that is none is the house's
pub record Written : Type 0 where
  pub kind : StoreKind
  pub capacity : ℕ
  pub text : List ℕ
  pub token_records : ℕ
  pub line_records : ℕ
  pub token_book : Option Plan
  pub line_book : Option Plan
  pub requests : List Asked

-- what was not said: a gap store of 4096 bytes, an empty text, and a record more than the store has bytes
abbrev pub store_of : Heard → StoreKind × ℕ
store_of h = unwrap_or h.store (Gap, 4096)

abbrev pub memory_of : Heard → ℕ × ℕ
memory_of h = unwrap_or h.memory ((store_of h).1 + 1, (store_of h).1 + 1)

abbrev pub script_of : Heard → Written
script_of h =
    record {
      kind = (store_of h).0;
      capacity = (store_of h).1;
      text = unwrap_or h.text [];
      token_records = (memory_of h).0;
      line_records = (memory_of h).1;
      token_book = h.token_book;
      line_book = h.line_book;
      requests = h.requests;
    }

abbrev pub written_out : Result Heard (ℕ × Wrong) → Result Written (ℕ × Wrong)
written_out (Ok h) = Ok (script_of h)
written_out (Err e) = Err e

-- the script that bytes mean, or the first line that breaks the rules
abbrev pub meaning : List ℕ → Result Written (ℕ × Wrong)
meaning bs = written_out (told 1 silence (lines_of bs))
