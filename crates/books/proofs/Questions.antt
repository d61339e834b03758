-- What an answer to a question says of each detail.
use Rattle.std.proofs.Common.{◌≡◌, ℕ, ◌<◌, ◌≤◌, Bool, true, false, cond, not, List, length, get_or, is_some, Some, None, Option, refl, arith}
use Rattle.std.specs.Option.{option_map}
use Rattle.std.specs.List.{position_or_len}
use Rattle.std.proofs.lemmas.Bool.{not-false, ltb-false}
use Rattle.std.proofs.lemmas.List.Sums.{fails_before_first}
use Rattle.books.specs.Check.{first, first_no}

pub none_from_test : {A : Type 0} (o : Option A) → is_some o ≡ false → o ≡ None
none_from_test (Some x) e = cc
none_from_test None e = refl

-- no answer at all is no first and no second
pub first_none : {A : Type 0} (x y : Option A) → first x y ≡ None → (x ≡ None) × (y ≡ None)
first_none (Some x) y e = (cc, cc)
first_none None y e = (refl, e)

pub mapped_none : {A B : Type 0} (f : A → B) (o : Option A) → option_map f o ≡ None → o ≡ None
mapped_none f (Some x) e = cc
mapped_none f None e = refl

cond_none : {A : Type 0} (b : Bool) (x : A) → cond b (Some x) None ≡ None → b ≡ false
cond_none true x e = cc
cond_none false x e = refl

-- where no element gets a no, each gets a yes
pub each_yes : {A : Type 0} (right : A → Bool) (xs : List A) (d : A) → first_no right xs ≡ None → (k : ℕ) → k < length xs → right (get_or xs k d) ≡ true
each_yes right xs d e k h =
    let past : length xs ≤ position_or_len (λ x. not (right x)) xs = ltb-false _ _ (cond_none _ _ e) in
    not-false _ (fails_before_first (λ x. not (right x)) xs k d (omega arith))
