-- How a text is printed: in double quotes, with escapes.
use Rattle.std.specs.Prelude.{ℕ, ◌/◌, ◌%◌, cond, ◌&&◌, List, [], ◌∷◌, ◌++◌, Some, None, Option, ◌==◌, nat_le}
use Rattle.std.specs.List.{flat_map}
use Rattle.std.specs.Char.{digit_char}

-- the letter behind the backslash: of a backslash, a double quote, a newline, a carriage return and a tab
abbrev pub short : ℕ → Option ℕ
short b =
    cond (b == 92) (Some 92)
    (cond (b == 34) (Some 34)
    (cond (b == 10) (Some 110)
    (cond (b == 13) (Some 114)
    (cond (b == 9) (Some 116) None))))

abbrev pub shown_as : ℕ → Option ℕ → List ℕ
shown_as b (Some l) = 92 ∷ l ∷ []
shown_as b None = cond (nat_le 32 b && nat_le b 126) (b ∷ []) (92 ∷ 120 ∷ digit_char (b / 16) ∷ digit_char (b % 16) ∷ [])

-- a byte as it is shown: by a letter, as itself from 32 to 126, else by two hex digits of lower case
abbrev pub shown : ℕ → List ℕ
shown b = shown_as b (short b)

abbrev pub escaped : List ℕ → List ℕ
escaped s = flat_map shown s

abbrev pub quoted : List ℕ → List ℕ
quoted s = 34 ∷ escaped s ++ (34 ∷ [])
