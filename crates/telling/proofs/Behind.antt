-- One piece of text behind another.
use Rattle.std.proofs.Common.{◌≡◌, ℕ, List, ◌++◌, ap, ◌∙◌, append_assoc}

-- what was put behind a, then what was put behind that
pub behind : {was now : List ℕ} (a b c : List ℕ) → was ≡ a ++ b → now ≡ was ++ c → now ≡ a ++ (b ++ c)
behind a b c first second = second ∙ ap (λ xs. xs ++ c) first ∙ append_assoc a b c
