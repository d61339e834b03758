-- Bytes up to the first that is another one.
use Rattle.std.proofs.Common.{◌≡◌, ℕ, ◌+◌, ◌∙◌, Bool, true, false, cond, not, eqb, List, [], ◌∷◌, length, take, drop, unwrap_or, refl, ap, arith}
use Rattle.std.specs.List.{position, position_or_len}
use Rattle.std.proofs.lemmas.Grind.{common_steps}
use Rattle.std.proofs.lemmas.List.Sums.{prefix_len-le-length}
use Rattle.script.specs.Fields.{front, onward}

-- the place of the first, or the length where there is none
first_place : (e : ℕ) (bs : List ℕ) → unwrap_or (position (λ b. eqb b e) bs) (length bs) ≡ position_or_len (λ b. eqb b e) bs
first_place e bs =
    let within = prefix_len-le-length (λ b. not (eqb b e)) bs in
    grind (arith, common_steps)

front_step : (r : Bool) (n b : ℕ) (bs fs : List ℕ) → take n bs ≡ fs → take (cond (not r) (1 + n) 0) (b ∷ bs) ≡ cond r [] (b ∷ fs)
front_step true n b bs fs h = refl
front_step false n b bs fs h = grind (arith, common_steps)

onward_step : (r : Bool) (n b : ℕ) (bs fs : List ℕ) → drop n bs ≡ fs → drop (cond (not r) (1 + n) 0) (b ∷ bs) ≡ cond r (b ∷ bs) fs
onward_step true n b bs fs h = refl
onward_step false n b bs fs h = grind (arith, common_steps)

front_at : (e : ℕ) (bs : List ℕ) → take (position_or_len (λ b. eqb b e) bs) bs ≡ front e bs
front_at e [] = refl
front_at e (b ∷ bs) = front_step (eqb b e) _ b bs (front e bs) (front_at e bs)

onward_at : (e : ℕ) (bs : List ℕ) → drop (position_or_len (λ b. eqb b e) bs) bs ≡ onward e bs
onward_at e [] = refl
onward_at e (b ∷ bs) = onward_step (eqb b e) _ b bs (onward e bs) (onward_at e bs)

module _ (e : ℕ) (bs : List ℕ) (n : ℕ) (h : n ≡ unwrap_or (position (λ b. eqb b e) bs) (length bs)) where
  pub front_first : take n bs ≡ front e bs
  front_first = ap (λ k. take k bs) (h ∙ first_place e bs) ∙ front_at e bs

  pub onward_first : drop n bs ≡ onward e bs
  onward_first = ap (λ k. drop k bs) (h ∙ first_place e bs) ∙ onward_at e bs
