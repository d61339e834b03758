-- A scan depends on nothing but the symbols that it read.
use Rattle.std.proofs.Common.{◌≡◌, ℕ, zero, suc, ◌+◌, ◌≤◌, true, false, cond, ◌||◌, eqb, List, [], ◌∷◌, sym, refl, ap, ◌∙◌, subst, inl, inr, arith}
use Rattle.std.proofs.lemmas.Bool.{cases_Bool}
use Rattle.books.specs.Tables.{Tables, step, closed, start_state}
use Rattle.reading.specs.Reading.{path, stuck, reading, matched, token, token_on}
use Rattle.reading.specs.Laws.{Agree, DependsOnRead}

-- how many symbols a scan of xs from state s reads
abbrev pub read_of : Tables → ℕ → List ℕ → ℕ
read_of t s xs = reading t s (path t s xs)

-- in a closed state no step is taken
pub closed_path : (t : Tables) (s : ℕ) (xs : List ℕ) → closed t s ≡ true → path t s xs ≡ []
closed_path t s [] e = refl
closed_path t s (x ∷ xs) e = ap (λ b. cond (b || eqb (step t s x) 255) [] (step t s x ∷ path t (step t s x) xs)) e

-- a scan that begins in an open state reads something
pub open_reads : (t : Tables) (s : ℕ) (ps : List ℕ) → closed t s ≡ false → 1 ≤ reading t s ps
open_reads t s [] e = subst (λ b. 1 ≤ 0 + cond b 0 1) (sym e) (omega arith)
open_reads t s (p ∷ ps) e = omega arith

-- a path where a symbol has no step, and where it has one
pub path_stuck : (t : Tables) (s x : ℕ) (xs : List ℕ) → stuck t s x ≡ true → path t s (x ∷ xs) ≡ []
path_stuck t s x xs e = ap (λ b. cond b [] (step t s x ∷ path t (step t s x) xs)) e

pub path_step : (t : Tables) (s x : ℕ) (xs : List ℕ) → stuck t s x ≡ false → path t s (x ∷ xs) ≡ step t s x ∷ path t (step t s x) xs
path_step t s x xs e = ap (λ b. cond b [] (step t s x ∷ path t (step t s x) xs)) e

-- texts that agree as far as the scan of one reads give one path
pub path_local : (t : Tables) (s : ℕ) (xs ys : List ℕ) (r : ℕ) → Agree r xs ys → read_of t s xs ≤ r → path t s xs ≡ path t s ys
path_local t s [] [] r ag h = refl
path_local t s [] (y ∷ ys) zero ag h = elim (cases_Bool (closed t s)) [ inl e ↦ sym (closed_path t s (y ∷ ys) e) | inr e ↦ absurd (omega (arith, open_reads t s [] e)) ]
path_local t s [] (y ∷ ys) (suc r) ag h = absurd ag
path_local t s (x ∷ xs) [] zero ag h = elim (cases_Bool (closed t s)) [ inl e ↦ closed_path t s (x ∷ xs) e | inr e ↦ absurd (omega (arith, open_reads t s (path t s (x ∷ xs)) e)) ]
path_local t s (x ∷ xs) [] (suc r) ag h = absurd ag
path_local t s (x ∷ xs) (y ∷ ys) zero ag h = elim (cases_Bool (closed t s)) [ inl e ↦ closed_path t s (x ∷ xs) e ∙ sym (closed_path t s (y ∷ ys) e) | inr e ↦ absurd (omega (arith, open_reads t s (path t s (x ∷ xs)) e)) ]
path_local t s (x ∷ xs) (y ∷ ys) (suc r) ag h =
    elim (cases_Bool (stuck t s x)) [
      | inl e ↦ path_stuck t s x xs e ∙ sym (path_stuck t s x ys e) ∙ ap (λ z. path t s (z ∷ ys)) ag.0
      | inr e ↦
          let on : path t s (x ∷ xs) ≡ step t s x ∷ path t (step t s x) xs = path_step t s x xs e in
          let less : read_of t s (x ∷ xs) ≡ reading t s (step t s x ∷ path t (step t s x) xs) = ap (reading t s) on in
          let ih = path_local t (step t s x) xs ys r ag.1 (omega (arith, less)) in
          on ∙ ap (λ ps. step t s x ∷ ps) ih ∙ sym (path_step t s x ys e) ∙ ap (λ z. path t s (z ∷ ys)) ag.0
    ]

-- a token depends on nothing but the symbols that it read
pub token_local : (t : Tables) (m : ℕ) (xs ys : List ℕ) (r : ℕ) → Agree r xs ys → read_of t (start_state t m) xs ≤ r → token t m xs ≡ token t m ys
unfolding token
token_local t m xs ys r ag h = ap (token_on t m (start_state t m)) (path_local t (start_state t m) xs ys r ag h)

matched_reading : (t : Tables) (m r n rule : ℕ) → (matched t m r n rule).reading ≡ r
matched_reading t m r zero rule = refl
matched_reading t m r (suc n) rule = refl

-- the reading of a token is how far its scan read
pub token_reading : (t : Tables) (m : ℕ) (xs : List ℕ) → (token t m xs).reading ≡ read_of t (start_state t m) xs
unfolding token
token_reading t m xs = matched_reading t m _ _ _

pub depends_on_read : (t : Tables) (m : ℕ) (xs : List ℕ) → DependsOnRead t m xs (token t m xs)
depends_on_read t m xs ys ag = sym (token_local t m xs ys (token t m xs).reading ag (omega (arith, token_reading t m xs)))
