-- A fact about every number below n, computed at all of them at once and carried to each.
use Rattle.std.proofs.Common.{◌≡◌, ℕ, zero, suc, ◌<◌, List, [], ◌∷◌, get_or, drop, ap, le_of_suc-le-suc, not-suc-le-zero}

-- f 0, f 1, .. up to f (n - 1)
abbrev pub tabled : {A : Type 0} → ℕ → (ℕ → A) → List A
tabled zero f = []
tabled (suc n) f = f 0 ∷ tabled n (λ k. f (suc k))

pub at : {A : Type 0} (n : ℕ) (f g : ℕ → A) → tabled n f ≡ tabled n g → (k : ℕ) → k < n → f k ≡ g k
at zero f g e k h = absurd (not-suc-le-zero h)
at (suc n) f g e zero h = ap (λ l. get_or l 0 (f 0)) e
at (suc n) f g e (suc k) h = at n (λ i. f (suc i)) (λ i. g (suc i)) (ap (drop 1) e) k (le_of_suc-le-suc h)

-- the same over two numbers
pub at_both : {A : Type 0} (n m : ℕ) (f g : ℕ → ℕ → A) → tabled n (λ i. tabled m (f i)) ≡ tabled n (λ i. tabled m (g i)) → (i k : ℕ) → i < n → k < m → f i k ≡ g i k
at_both n m f g e i k hi hk = at m (f i) (g i) (at n (λ j. tabled m (f j)) (λ j. tabled m (g j)) e i hi) k hk
