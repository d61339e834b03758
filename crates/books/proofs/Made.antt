-- An array made by a closure that computes each element from its place.
use Rattle.std.proofs.Common.{◌≡◌, ℕ, zero, suc, ◌+◌, ◌<◌, ◌≤◌, List, get_or, refl, sym, ◌∙◌, subst, inl, inr, arith}
use denote.Param.Members.{Mut}
use Rattle.std.specs.Fn.{Called}
use Rattle.std.specs.Array.{IsFromFnResultFrom, index_steps}
use Rattle.std.specs.Iterator.{CallableAtEachTurn}
use Rattle.std.proofs.lemmas.Bool.{cases_eq}
use Rattle.std.proofs.lemmas.Fn.{serves_by}

pub made_at : {F B : Type 0} (g : Mut F (ℕ × Unit {0}) B) (f : F) (make : ℕ → B) → ((i : ℕ) (y : B) (q : F) → Called g f (i, tt) y q → (q ≡ f) × (y ≡ make i)) → (ys : List B) (d : B) (i n : ℕ) → IsFromFnResultFrom g f ys i n → (k : ℕ) → i ≤ k → k < i + n → get_or ys k d ≡ make k
made_at g f make each ys d i zero e k low high = absurd (omega arith)
made_at {F} g f make each ys d i (suc n) (q, y, at, called, rest) k low high =
    let same = each i y q called in
    elim (cases_eq k i) [
      | inl here ↦ rw here (at.1 d ∙ same.1)
      | inr other ↦
          made_at g f make each ys d (i + 1) n (subst (λ (h : F). IsFromFnResultFrom g h ys (i + 1) n) same.0 rest) k (let above : i + 1 ≤ k = omega arith in above) (let below : k < i + 1 + n = omega arith in below)
    ]

-- what a closure that stays as it is may be asked, at each index below n
pub serves_at : {F : Type 0} {R : F → ℕ → F → Type 0} {Q : F → ℕ → Type 0} {f : F} (n : ℕ) → ((i : ℕ) (q : F) → R f i q → q ≡ f) → ((i : ℕ) → i < n → Q f i) → CallableAtEachTurn (index_steps n) R Q 0 f
serves_at {F} {R} {Q} {f} n stays h =
    serves_by R (λ _ q. q ≡ f) (λ _ q i w j r. stays i w (subst (λ k. R k i w) j r)) (index_steps n) Q 0 f refl (λ _ t q i u y e j. subst (λ k. Q k i) (sym j) (h i (omega (arith, e.0, e.1))))
