-- A list of entries in two parts: where the entries of each start, how far they reach, and in which mode they are read.
use Rattle.std.proofs.Common.{◌≡◌, ℕ, zero, suc, ◌+◌, ◌-◌, ◌<◌, ◌≤◌, ltb, List, [], ◌∷◌, ◌++◌, length, take, drop, sym, refl, ap, ◌∙◌, ap₂, zero-add, arith}
use Rattle.std.proofs.lemmas.List.{get_or-take, get_or-drop, get_or-append-add}
use Rattle.reading.specs.Reading.{Entry, start, none, at, reach, lookback}
use Rattle.reading.specs.Laws.{mode_before, total_length}
use Rattle.reading.proofs.Greatest.{greatest_same}
use Rattle.reading.proofs.Lists.{mode_from, mode_from_next}
pub use Rattle.reading.proofs.Lists.{start_zero}

-- the entries of the second part, after those of the first
pub at_add : (es fs : List Entry) (j : ℕ) → at (es ++ fs) (length es + j) ≡ at fs j
at_add es fs j = get_or-append-add es fs j none

pub start_add : (es fs : List Entry) (j : ℕ) → start (es ++ fs) (length es + j) ≡ total_length es + start fs j
start_add [] fs j = ap (start fs) (zero-add j) ∙ sym (zero-add (start fs j))
start_add (e ∷ es) fs j =
    let next : suc (length es) + j ≡ suc (length es + j) = omega arith in
    ap (start (e ∷ es ++ fs)) next ∙ omega (arith, start_add es fs j)

pub mode_add : (m : ℕ) (es fs : List Entry) (j : ℕ) → mode_from m (es ++ fs) (length es + j) ≡ mode_from (mode_from m es (length es)) fs j
mode_add m [] fs j = ap (mode_from m fs) (zero-add j)
mode_add m (e ∷ es) fs j =
    let next : suc (length es) + j ≡ suc (length es + j) = omega arith in
    ap (mode_from m (e ∷ es ++ fs)) next ∙ mode_from_next m e (es ++ fs) (length es + j) ∙ mode_add e.mode es fs j ∙
    ap (λ k. mode_from k fs j) (sym (mode_from_next m e es (length es)))

-- the entries from the k-th on
pub at_from : (es : List Entry) (k j : ℕ) → at (drop k es) j ≡ at es (k + j)
at_from es k j = get_or-drop k es j none

pub start_from : (es : List Entry) (k j : ℕ) → start es (k + j) ≡ start es k + start (drop k es) j
start_from [] zero j = refl
start_from [] (suc k) j = refl
start_from (e ∷ es) zero j = ap (start (e ∷ es)) (zero-add j) ∙ sym (zero-add (start (e ∷ es) j))
start_from (e ∷ es) (suc k) j =
    let next : suc k + j ≡ suc (k + j) = omega arith in
    ap (start (e ∷ es)) next ∙ omega (arith, start_from es k j)

pub reach_from : (es : List Entry) (k j : ℕ) → reach es (k + j) ≡ start es k + reach (drop k es) j
reach_from es k j = omega (arith, start_from es k j, ap (λ e. e.reading) (at_from es k j))

-- the first f entries
pub at_take : (f : ℕ) (es : List Entry) (j : ℕ) → j < f → at (take f es) j ≡ at es j
at_take f es j h = get_or-take f es j none h

pub start_take : (f : ℕ) (es : List Entry) (j : ℕ) → j ≤ f → start (take f es) j ≡ start es j
start_take zero es j h = let here : 0 ≡ j = omega arith in sym (start_zero es) ∙ ap (start es) here
start_take (suc f) [] j h = refl
start_take (suc f) (e ∷ es) zero h = refl
start_take (suc f) (e ∷ es) (suc j) h = ap (λ n. e.length + n) (start_take f es j (omega arith))

-- lists with the same first f entries
module _ (f : ℕ) (es fs : List Entry) (same : take f fs ≡ take f es) where
  pub same_at : (j : ℕ) → j < f → at fs j ≡ at es j
  same_at j h = sym (at_take f fs j h) ∙ ap (λ l. at l j) same ∙ at_take f es j h

  pub same_start : (j : ℕ) → j ≤ f → start fs j ≡ start es j
  same_start j h = sym (start_take f fs j h) ∙ ap (λ l. start l j) same ∙ start_take f es j h

  pub same_reach : (j : ℕ) → j < f → reach fs j ≡ reach es j
  same_reach j h = ap₂ (λ n e. n + e.reading) (same_start j (omega arith)) (same_at j h)

  pub same_mode : (j : ℕ) → j ≤ f → mode_before fs j ≡ mode_before es j
  same_mode zero h = refl
  same_mode (suc j) h = ap (λ e. e.mode) (same_at j h)

  pub same_lookback : (j : ℕ) → j ≤ f → lookback fs j ≡ lookback es j
  same_lookback j h =
      greatest_same
      (λ b. ltb (start fs j) (reach fs (j - b)))
      (λ b. ltb (start es j) (reach es (j - b)))
      j
      (λ b x y. ap₂ ltb (same_start j h) (same_reach (j - b) (omega arith)))
