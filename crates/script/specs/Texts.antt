-- What a text between double quotes stands for.
use Rattle.std.specs.Prelude.{ℕ, cond, List, [], ◌∷◌, ◌++◌, Some, None, Option, ◌==◌}
use Rattle.std.specs.Option.{option_map}
use Rattle.script.specs.declared.texts.Spot.{Spot}
use Rattle.script.specs.declared.texts.Spot.TheVariants.{Plain, Slash, Digits, Half}
use Rattle.script.specs.declared.texts.Move.{Move}
use Rattle.script.specs.declared.texts.Move.TheVariants.{Close, Give, Go}
use Rattle.script.specs.Hex.{pair}

-- the byte of an escape of one letter: n, r, t, backslash and double quote
abbrev pub letter : ℕ → Option ℕ
letter b =
    cond (b == 110) (Some 10)
    (cond (b == 114) (Some 13)
    (cond (b == 116) (Some 9)
    (cond (b == 92) (Some 92)
    (cond (b == 34) (Some 34) None))))

-- what the next byte does: a double quote closes the text, a backslash begins an escape, any other byte stands for itself; none where the escape is none
abbrev pub moves : Spot → ℕ → Option Move
moves Plain b = cond (b == 34) (Some Close) (cond (b == 92) (Some (Go Slash)) (Some (Give b)))
moves Slash b = cond (b == 120) (Some (Go Digits)) (option_map (λ x. Give x) (letter b))
moves Digits b = Some (Go (Half b))
moves (Half h) b = option_map (λ x. Give x) (pair h b)

-- some bytes, then what was read behind them
abbrev pub behind : List ℕ → Option (List ℕ × List ℕ) → Option (List ℕ × List ℕ)
behind bs None = None
behind bs (Some x) = Some (bs ++ x.0, x.1)

abbrev pub going : Option Move → List ℕ → (Spot → Option (List ℕ × List ℕ)) → Option (List ℕ × List ℕ)
going (Some Close) bs from = Some ([], bs)
going (Some (Give b)) bs from = behind (b ∷ []) (from Plain)
going (Some (Go q)) bs from = from q
going None bs from = None

abbrev pub reading : List ℕ → Spot → Option (List ℕ × List ℕ)
reading [] q = None
reading (b ∷ bs) q = going (moves q b) bs (λ p. reading bs p)

-- the text that begins behind an opening quote, and what is left behind its closing one; none where an escape is none or the text is not closed
abbrev pub text_of : List ℕ → Option (List ℕ × List ℕ)
text_of bs = reading bs Plain
