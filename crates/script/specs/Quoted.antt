-- What a text between double quotes stands for, or what is wrong with it.
use Rattle.std.specs.Prelude.{ℕ, List, [], ◌∷◌, ◌++◌, Some, None, Ok, Err, Option, Result}
use Rattle.script.specs.declared.texts.Spot.{Spot}
use Rattle.script.specs.declared.texts.Spot.TheVariants.{Plain}
use Rattle.script.specs.declared.texts.Move.{Move}
use Rattle.script.specs.declared.texts.Move.TheVariants.{Close, Give, Go}
use Rattle.script.specs.declared.wrong.Wrong.{Wrong}
use Rattle.script.specs.declared.wrong.Wrong.TheVariants.{OpenText, Escape}
use Rattle.script.specs.Texts.{moves}

-- some bytes, then what was read behind them
abbrev pub then_read : List ℕ → Result (List ℕ × List ℕ) Wrong → Result (List ℕ × List ℕ) Wrong
then_read bs (Ok x) = Ok (bs ++ x.0, x.1)
then_read bs (Err w) = Err w

abbrev pub on_move : Option Move → List ℕ → (Spot → Result (List ℕ × List ℕ) Wrong) → Result (List ℕ × List ℕ) Wrong
on_move (Some Close) bs from = Ok ([], bs)
on_move (Some (Give b)) bs from = then_read (b ∷ []) (from Plain)
on_move (Some (Go q)) bs from = from q
on_move None bs from = Err Escape

abbrev pub read_from : List ℕ → Spot → Result (List ℕ × List ℕ) Wrong
read_from [] q = Err OpenText
read_from (b ∷ bs) q = on_move (moves q b) bs (λ p. read_from bs p)

-- the text that begins behind an opening quote, and what is left behind its closing one; or the first escape that is none, or that the text is not closed
abbrev pub quoted_text : List ℕ → Result (List ℕ × List ℕ) Wrong
quoted_text bs = read_from bs Plain
