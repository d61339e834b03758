-- Laws of scripts: a command that is written as a line is read as that command, and a script that is written out is read as that script.
-- Each field is written before what is left of the line.
use Rattle.std.specs.Prelude.{◌≡◌, ℕ, ◌/◌, ◌%◌, ◌^◌, ◌<◌, ◌≤◌, List, [], ◌∷◌, ◌++◌, map, length, replicate, Some, None, Ok, codes, decimal, Option, slice_index}
use Rattle.std.specs.List.{flat_map, AllByRecursion}
use Rattle.std.specs.Char.{digit_char}
use Rattle.books.specs.Check.{Plan}
use Rattle.requests.specs.Asked.{Asked, correct, token, line, where_is, time, copy, alike}
use Rattle.script.specs.declared.scripts.StoreKind.{StoreKind}
use Rattle.script.specs.declared.scripts.StoreKind.TheVariants.{Flat, Gap}
use Rattle.script.specs.Commands.{Instruction, store, opening_text, memory, token_book, line_book, ask, command_of}
use Rattle.script.specs.Scripts.{Written, meaning}
use Rattle.script.specs.Shown.{escaped}

abbrev pub number_out : ℕ → List ℕ → List ℕ
number_out n left = 32 ∷ decimal n ++ left

abbrev pub text_out : List ℕ → List ℕ → List ℕ
text_out t left = 32 ∷ 34 ∷ escaped t ++ (34 ∷ left)

abbrev pub hexes : List ℕ → List ℕ
hexes [] = []
hexes (b ∷ bs) = digit_char (b / 16) ∷ digit_char (b % 16) ∷ hexes bs

abbrev pub table_out : List ℕ → List ℕ → List ℕ
table_out [] left = 32 ∷ 45 ∷ left
table_out (b ∷ bs) left = 32 ∷ hexes (b ∷ bs) ++ left

abbrev pub kind_out : StoreKind → List ℕ → List ℕ
kind_out Flat left = codes " flat" ++ left
kind_out Gap left = codes " gap" ++ left

abbrev pub plan_out : Plan → List ℕ → List ℕ
plan_out p left =
    number_out p.states (number_out p.tables.width (number_out p.modes (number_out p.rules
    (table_out p.tables.classes (table_out p.tables.steps (table_out p.tables.accepts (table_out p.tables.rules (table_out p.tables.starts left))))))))

abbrev pub request_out : Asked → List ℕ
request_out (correct a c i) = codes "correct" ++ number_out a (number_out c (text_out i []))
request_out (token n) = codes "token" ++ number_out n []
request_out (line n) = codes "line" ++ number_out n []
request_out (where_is p) = codes "where" ++ number_out p []
request_out (time n) = codes "time" ++ number_out n []
request_out (copy n b) = codes "copy" ++ number_out n (number_out (length b) [])
request_out (alike a b) = codes "alike" ++ number_out a (number_out b [])

abbrev pub line_of : Instruction → List ℕ
line_of (store k n) = codes "store" ++ kind_out k (number_out n [])
line_of (opening_text t) = codes "text" ++ text_out t []
line_of (memory t l) = codes "memory" ++ number_out t (number_out l [])
line_of (token_book p) = codes "token-book" ++ plan_out p []
line_of (line_book p) = codes "line-book" ++ plan_out p []
line_of (ask r) = request_out r

-- what a line can hold: bytes, numbers of 64 bits, sizes up to a million, and for a copy a buffer of bytes of 255
abbrev pub Bytes : List ℕ → Type 0
Bytes t = (k : ℕ) → slice_index t k < 256

pub record SayablePlan (p : Plan) : Type 0 where
  pub states : p.states < 2 ^ 64
  pub width : p.tables.width < 2 ^ 64
  pub modes : p.modes < 2 ^ 64
  pub rules : p.rules < 2 ^ 64
  pub class_table : Bytes p.tables.classes
  pub step_table : Bytes p.tables.steps
  pub accept_table : Bytes p.tables.accepts
  pub rule_table : Bytes p.tables.rules
  pub start_table : Bytes p.tables.starts

abbrev pub SayableRequest : Asked → Type 0
SayableRequest (correct a c i) = (a < 2 ^ 64) × (c < 2 ^ 64) × Bytes i
SayableRequest (token n) = n < 2 ^ 64
SayableRequest (line n) = n < 2 ^ 64
SayableRequest (where_is p) = p < 2 ^ 64
SayableRequest (time n) = n < 2 ^ 64
SayableRequest (copy n b) = (n < 2 ^ 64) × (length b ≤ 1000000) × (b ≡ replicate (length b) 255)
SayableRequest (alike a b) = (a < 2 ^ 64) × (b < 2 ^ 64)

abbrev pub Sayable : Instruction → Type 0
Sayable (store k n) = n ≤ 1000000
Sayable (opening_text t) = Bytes t
Sayable (memory t l) = (t ≤ 1000000) × (l ≤ 1000000)
Sayable (token_book p) = SayablePlan p
Sayable (line_book p) = SayablePlan p
Sayable (ask r) = SayableRequest r

abbrev pub LinesReadBack : Type 0
LinesReadBack = (c : Instruction) → Sayable c → command_of (line_of c) ≡ Ok c

-- a whole script: its set-up, then its requests, a line each
abbrev pub book_line : (Plan → Instruction) → Option Plan → List Instruction
book_line says None = []
book_line says (Some p) = says p ∷ []

abbrev pub commands_of : Written → List Instruction
commands_of w =
    store w.kind w.capacity ∷ opening_text w.text ∷ memory w.token_records w.line_records ∷
    (book_line token_book w.token_book ++ (book_line line_book w.line_book ++ map ask w.requests))

abbrev pub script_out : Written → List ℕ
script_out w = flat_map (λ c. line_of c ++ (10 ∷ [])) (commands_of w)

abbrev pub ScriptsReadBack : Type 0
ScriptsReadBack = (w : Written) → AllByRecursion Sayable (commands_of w) → meaning (script_out w) ≡ Ok w
