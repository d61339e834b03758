-- The fields of a line. Each is read from what is left of the line, and gives its value and what is left behind it, or what is wrong.
use Rattle.std.specs.Prelude.{ℕ, ◌+◌, ◌-◌, ◌*◌, ◌^◌, cond, ◌&&◌, List, [], ◌∷◌, Some, None, Ok, Err, codes, Option, Result, ◌==◌, nat_le, nat_lt}
use Rattle.std.specs.Option.{ok_or}
use Rattle.std.specs.Str.{bytes_eq}
use Rattle.script.specs.declared.wrong.Wrong.{Wrong}
use Rattle.script.specs.declared.wrong.Wrong.TheVariants.{Missing, Left, Number, TooLarge, OverLimit, NoText, Table}
use Rattle.script.specs.Hex.{pair}
use Rattle.script.specs.Steps.{on}
use Rattle.script.specs.Quoted.{quoted_text}

-- the bytes before the first that is e, and those from it on
abbrev pub front : ℕ → List ℕ → List ℕ
front e [] = []
front e (b ∷ bs) = cond (b == e) [] (b ∷ front e bs)

abbrev pub onward : ℕ → List ℕ → List ℕ
onward e [] = []
onward e (b ∷ bs) = cond (b == e) (b ∷ bs) (onward e bs)

-- the one blank before a field
abbrev pub past_blank : List ℕ → Result (List ℕ) Wrong
past_blank [] = Err Missing
past_blank (b ∷ bs) = cond (b == 32) (Ok bs) (Err Left)

-- a field that is a word, read by a rule
abbrev pub field : {X : Type 0} → (List ℕ → Result X Wrong) → List ℕ → Result (X × List ℕ) Wrong
field rule s = on (past_blank s) (λ t. on (rule (front 32 t)) (λ x. Ok (x, onward 32 t)))

-- a number: digits in base ten, behind those that made n; it fits 64 bits
abbrev pub grown : ℕ → ℕ → ℕ
grown n b = n * 10 + (b - 48)

abbrev pub digits : ℕ → List ℕ → Result ℕ Wrong
digits n [] = Ok n
digits n (b ∷ bs) =
    cond (nat_le 48 b && nat_le b 57)
    (cond (nat_lt (grown n b) (2 ^ 64)) (digits (grown n b) bs) (Err TooLarge))
    (Err Number)

abbrev pub number_of : List ℕ → Result ℕ Wrong
number_of [] = Err Missing
number_of (b ∷ bs) = digits 0 (b ∷ bs)

-- a table: a pair of hex digits for each byte, or - for none
abbrev pub onto : Option ℕ → Option (List ℕ) → Option (List ℕ)
onto None o = None
onto (Some b) None = None
onto (Some b) (Some bs) = Some (b ∷ bs)

abbrev pub pairs : List ℕ → Option (List ℕ)
pairs [] = Some []
pairs (h ∷ []) = None
pairs (h ∷ l ∷ bs) = onto (pair h l) (pairs bs)

abbrev pub table_of : List ℕ → Result (List ℕ) Wrong
table_of [] = Err Missing
table_of (b ∷ bs) = cond (bytes_eq (b ∷ bs) (codes "-")) (Ok []) (ok_or (pairs (b ∷ bs)) Table)

abbrev pub number_in : List ℕ → Result (ℕ × List ℕ) Wrong
number_in s = field number_of s

-- a number that is at most a million
abbrev pub size_of : ℕ → Result ℕ Wrong
size_of n = cond (nat_le n 1000000) (Ok n) (Err OverLimit)

abbrev pub size_in : List ℕ → Result (ℕ × List ℕ) Wrong
size_in s = on (number_in s) (λ a. on (size_of a.0) (λ n. Ok (n, a.1)))

abbrev pub table_in : List ℕ → Result (List ℕ × List ℕ) Wrong
table_in s = field table_of s

-- a text begins with a double quote
abbrev pub quoted_in : List ℕ → Result (List ℕ × List ℕ) Wrong
quoted_in [] = Err NoText
quoted_in (b ∷ bs) = cond (b == 34) (quoted_text bs) (Err NoText)

abbrev pub text_in : List ℕ → Result (List ℕ × List ℕ) Wrong
text_in s = on (past_blank s) quoted_in

-- nothing stands behind the last field
abbrev pub at_end : List ℕ → Result (List ℕ) Wrong
at_end [] = Ok []
at_end (b ∷ bs) = Err Left
