-- A table that is read pair by pair: what is known after one more.
use Rattle.std.proofs.Common.{◌≡◌, ℕ, ◌%◌, List, [], ◌∷◌, ◌++◌, length, length-append, get_or, Some, None, Option, sym, refl, ap, ◌∙◌, append_assoc, arith}
use Rattle.script.specs.Fields.{onto, pairs}
use Rattle.script.specs.Hex.{pair}

-- some bytes, then those of the pairs behind them
abbrev pub joined_to : List ℕ → Option (List ℕ) → Option (List ℕ)
joined_to xs None = None
joined_to xs (Some ys) = Some (xs ++ ys)

joined_onto : (xs : List ℕ) (b : ℕ) (o : Option (List ℕ)) → joined_to xs (onto (Some b) o) ≡ joined_to (xs ++ (b ∷ [])) o
joined_onto xs b None = refl
joined_onto xs b (Some ys) = ap Some (sym (append_assoc xs (b ∷ []) ys))

onto_none : (o : Option ℕ) → onto o None ≡ None
onto_none None = refl
onto_none (Some b) = refl

pub pairs_odd : (w : List ℕ) → (length w % 2 ≡ 0 → ⊥) → pairs w ≡ None
pairs_odd [] h = absurd (h refl)
pairs_odd (x ∷ []) h = refl
pairs_odd (x ∷ y ∷ w) h = ap (onto (pair x y)) (pairs_odd w (λ e. h (omega (arith, e)))) ∙ onto_none (pair x y)

two : (x t : List ℕ) → length x ≡ 2 → pairs (x ++ t) ≡ onto (pair (get_or x 0 0) (get_or x 1 0)) (pairs t)
two [] t h = absurd (omega (arith, h))
two (h ∷ []) t e = absurd (omega (arith, e))
two (h ∷ l ∷ []) t e = refl
two (h ∷ l ∷ m ∷ x) t e = absurd (omega (arith, e))

pub pairs_more : (x t xs : List ℕ) (b : ℕ) → length x ≡ 2 → pair (get_or x 0 0) (get_or x 1 0) ≡ Some b → joined_to xs (pairs (x ++ t)) ≡ joined_to (xs ++ (b ∷ [])) (pairs t)
pairs_more x t xs b h e = ap (joined_to xs) (two x t h ∙ ap (λ o. onto o (pairs t)) e) ∙ joined_onto xs b (pairs t)

pub pairs_bad : (x t xs : List ℕ) → length x ≡ 2 → pair (get_or x 0 0) (get_or x 1 0) ≡ None → joined_to xs (pairs (x ++ t)) ≡ None
pairs_bad x t xs h e = ap (joined_to xs) (two x t h ∙ ap (λ o. onto o (pairs t)) e)

-- behind two bytes of an even number of them
pub even_behind : (s x t : List ℕ) → s ≡ x ++ t → length x ≡ 2 → length s % 2 ≡ 0 → length t % 2 ≡ 0
even_behind s x t e h k = omega (arith, ap length e ∙ length-append x t, h, k)
