-- The lines that answers are told in.
use Rattle.std.specs.Prelude.{ℕ, Bool, true, false, List, [], ◌∷◌, ◌++◌, Some, None, Ok, Err, vec_items, codes, decimal, Option, Result}
use Rattle.std.specs.List.{flat_map}
use Rattle.counts.specs.declared.Refusal.{Refusal}
use Rattle.reading.specs.Reading.{Entry}
use Rattle.requests.specs.Asked.{Reports}
use Rattle.requests.specs.Told.{told}
use Rattle.requests.specs.declared.answers.Answer.{Answer}
use Rattle.requests.specs.declared.answers.Answer.TheVariants.{Corrected, Token, Line, Where, Time, Copied, Alike}
use Rattle.requests.specs.declared.faults.SheetFault.{SheetFault}
use Rattle.script.specs.Shown.{quoted}

-- numbers in base ten, a blank before each
abbrev pub spaced : List ℕ → List ℕ
spaced ns = flat_map (λ n. 32 ∷ decimal n) ns

abbrev pub line : List ℕ → List ℕ → List ℕ
line name ns = (name ++ spaced ns) ++ (10 ∷ [])

-- a line with a text at its end
abbrev pub line_with : List ℕ → List ℕ → List ℕ → List ℕ
line_with name ns text = (((name ++ spaced ns) ++ (32 ∷ [])) ++ quoted text) ++ (10 ∷ [])

abbrev pub three : Refusal → List ℕ
three f = f.layer ∷ f.number ∷ f.detail ∷ []

abbrev pub five : Entry → List ℕ
five e = e.kind ∷ e.length ∷ e.reading ∷ e.mode ∷ e.lookback ∷ []

abbrev pub eight : Reports → List ℕ
eight r =
    r.tokens.first ∷ r.tokens.out ∷ r.tokens.«in» ∷ r.tokens.tail ∷
    r.lines.first ∷ r.lines.out ∷ r.lines.«in» ∷ r.lines.tail ∷ []

abbrev pub refusal_line : Refusal → List ℕ
refusal_line f = line (codes "refused") (three f)

abbrev pub corrected : Result Reports SheetFault → List ℕ
corrected (Ok r) = line (codes "report") (eight r)
corrected (Err f) = refusal_line (told f)

abbrev pub entry_line : List ℕ → Option Entry → List ℕ
entry_line name (Some e) = line name (five e)
entry_line name None = line (codes "none") []

abbrev pub where_line : Option (ℕ × ℕ) → List ℕ
where_line (Some w) = line (codes "where") (w.0 ∷ w.1 ∷ [])
where_line None = line (codes "none") []

abbrev pub time_line : Option ℕ → List ℕ
time_line (Some t) = line (codes "time") (t ∷ [])
time_line None = line (codes "none") []

abbrev pub copy_line : Result ℕ SheetFault → List ℕ → List ℕ
copy_line (Ok n) buffer = line_with (codes "copied") (n ∷ []) buffer
copy_line (Err f) buffer = line_with (codes "refused") (three (told f)) buffer

abbrev pub alike_line : Option Bool → List ℕ
alike_line (Some true) = line (codes "yes") []
alike_line (Some false) = line (codes "no") []
alike_line None = line (codes "none") []

-- the line of an answer
abbrev pub answer_line : Answer → List ℕ
answer_line (Corrected r) = corrected r
answer_line (Token o) = entry_line (codes "token") o
answer_line (Line o) = entry_line (codes "line") o
answer_line (Where o) = where_line o
answer_line (Time o) = time_line o
answer_line (Copied n b) = copy_line n (vec_items b)
answer_line (Alike o) = alike_line o

-- the line of a script that breaks its rules
abbrev pub broken_line : ℕ → List ℕ → List ℕ
broken_line n words = (((codes "line" ++ (32 ∷ decimal n)) ++ codes ": ") ++ words) ++ (10 ∷ [])
