-- An item of a list that stands at the front of a memory.
use Rattle.std.proofs.Common.{◌≡◌, ℕ, zero, suc, ◌<◌, ◌≤◌, List, [], ◌∷◌, map, length, get_or, take, Some, None, refl, ap, arith}
use Rattle.std.specs.List.{slice_get}

pub nth_there : {X Y : Type 0} (f : X → Y) (xs : List X) (n i : ℕ) (x : X) → i < n → i < length xs → x ≡ get_or xs i x → Some (f x) ≡ slice_get (map f (take n xs)) i
nth_there f [] n i x h k e = absurd (omega arith)
nth_there f (y ∷ ys) zero i x h k e = absurd (omega arith)
nth_there f (y ∷ ys) (suc n) zero x h k e = ap (λ z. Some (f z)) e
nth_there f (y ∷ ys) (suc n) (suc i) x h k e = nth_there f ys n i x (omega arith) (omega arith) e

pub nth_not_there : {X Y : Type 0} (f : X → Y) (xs : List X) (n i : ℕ) → n ≤ i → None ≡ slice_get (map f (take n xs)) i
nth_not_there f [] zero i h = refl
nth_not_there f [] (suc n) i h = refl
nth_not_there f (y ∷ ys) zero i h = refl
nth_not_there f (y ∷ ys) (suc n) zero h = absurd (omega arith)
nth_not_there f (y ∷ ys) (suc n) (suc i) h = nth_not_there f ys n i (omega arith)
