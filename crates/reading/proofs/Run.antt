-- A scan in progress: what is left of it, step by step.
use Rattle.std.proofs.Common.{◌≡◌, ℕ, zero, suc, ◌+◌, ◌<◌, ◌≤◌, true, false, cond, not, eqb, List, [], ◌∷◌, length, get_or, drop, sym, refl, ap, ◌∙◌, ap₂, inl, inr, add-zero, zero-add, arith}
use Rattle.std.proofs.lemmas.List.{get_or_default, drop_all, drop_more}
use Rattle.std.proofs.lemmas.Bool.{cases_Bool, eq-eqb, ne_eqb, or_from, or_left, or_right, cond-true, cond-false}
use Rattle.books.specs.Tables.{Tables, step, closed, accept, kind_of, next_mode, start_state}
use Rattle.reading.specs.Reading.{Entry, entry, path, stuck, state, longest, reading, matched, token}
use Rattle.reading.proofs.Greatest.{onward, greatest_le, greatest_same, greatest_onward}
use Rattle.reading.proofs.Local.{path_stuck, path_step}

-- what a scan comes to: the length and the rule of the longest match, and how many symbols it read
pub record Scan : Type 0 where
  pub kept : ℕ
  pub rule : ℕ
  pub reading : ℕ

abbrev pub scan : ℕ → ℕ → ℕ → Scan
scan k r n = record { kept = k; rule = r; reading = n }

scan_same : {k l r q n m : ℕ} → k ≡ l → r ≡ q → n ≡ m → scan k r n ≡ scan l q m
scan_same a b c i = scan (a i) (b i) (c i)

-- a scan that ends in state s after n steps, having read a symbol more unless s is closed
abbrev pub ended : Tables → ℕ → ℕ → ℕ → ℕ → Scan
ended t s n k r = scan k r (n + cond (closed t s) 0 1)

-- what a scan comes to that stands in state s after n steps, before the symbols xs;
-- k and r are the length and the rule of the longest match so far
unfoldable pub run : Tables → ℕ → ℕ → ℕ → ℕ → List ℕ → Scan
run t s n k r [] = ended t s n k r
run t s n k r (x ∷ xs) =
    cond
    (stuck t s x)
    (ended t s n k r)
    (cond
    (eqb (accept t (step t s x)) 255)
    (run t (step t s x) (n + 1) k r xs)
    (run t (step t s x) (n + 1) (n + 1) (accept t (step t s x)) xs))

ended_closed : (t : Tables) (s n k r : ℕ) → closed t s ≡ true → ended t s n k r ≡ scan k r n
ended_closed t s n k r c = ap (λ b. scan k r (n + cond b 0 1)) c ∙ ap (scan k r) (add-zero n)

ended_open : (t : Tables) (s n k r : ℕ) → closed t s ≡ false → ended t s n k r ≡ scan k r (n + 1)
ended_open t s n k r c = ap (λ b. scan k r (n + cond b 0 1)) c

run_stuck : (t : Tables) (s n k r x : ℕ) (xs : List ℕ) → stuck t s x ≡ true → run t s n k r (x ∷ xs) ≡ ended t s n k r
unfolding run
run_stuck t s n k r x xs e = cond-true (stuck t s x) (ended t s n k r) _ e

-- a step to a state that accepts no rule, and to one that accepts a rule
run_over : (t : Tables) (s n k r x : ℕ) (xs : List ℕ) → stuck t s x ≡ false → eqb (accept t (step t s x)) 255 ≡ true →
    run t s n k r (x ∷ xs) ≡ run t (step t s x) (n + 1) k r xs
unfolding run
run_over t s n k r x xs e a = ap (λ b. cond b (ended t s n k r) (cond (eqb (accept t (step t s x)) 255) (run t (step t s x) (n + 1) k r xs) (run t (step t s x) (n + 1) (n + 1) (accept t (step t s x)) xs))) e ∙ cond-true _ _ _ a

run_keep : (t : Tables) (s n k r x : ℕ) (xs : List ℕ) → stuck t s x ≡ false → eqb (accept t (step t s x)) 255 ≡ false →
    run t s n k r (x ∷ xs) ≡ run t (step t s x) (n + 1) (n + 1) (accept t (step t s x)) xs
unfolding run
run_keep t s n k r x xs e a = ap (λ b. cond b (ended t s n k r) (cond (eqb (accept t (step t s x)) 255) (run t (step t s x) (n + 1) k r xs) (run t (step t s x) (n + 1) (n + 1) (accept t (step t s x)) xs))) e ∙ cond-false _ _ _ a

-- in a closed state the scan ends without reading
pub run_closed : (t : Tables) (s n k r : ℕ) (xs : List ℕ) → closed t s ≡ true → run t s n k r xs ≡ scan k r n
unfolding run
run_closed t s n k r [] c = ended_closed t s n k r c
run_closed t s n k r (x ∷ xs) c = run_stuck t s n k r x xs (or_left (closed t s) (eqb (step t s x) 255) c) ∙ ended_closed t s n k r c

-- in an open state it reads the end
pub run_end : (t : Tables) (s n k r : ℕ) → closed t s ≡ false → run t s n k r [] ≡ scan k r (n + 1)
unfolding run
run_end t s n k r c = ended_open t s n k r c

-- or a symbol that has no step
pub run_none : (t : Tables) (s n k r x : ℕ) (xs : List ℕ) → closed t s ≡ false → step t s x ≡ 255 → run t s n k r (x ∷ xs) ≡ scan k r (n + 1)
run_none t s n k r x xs c e = run_stuck t s n k r x xs (or_right (closed t s) (eqb (step t s x) 255) (eq-eqb (step t s x) 255 e)) ∙ ended_open t s n k r c

moves : (t : Tables) (s x : ℕ) → closed t s ≡ false → (step t s x ≡ 255 → ⊥) → stuck t s x ≡ false
moves t s x c e = or_from (closed t s) (eqb (step t s x) 255) c (ne_eqb (step t s x) 255 e)

-- or takes a step, to a state that accepts no rule
pub run_step : (t : Tables) (s n k r x : ℕ) (xs : List ℕ) → closed t s ≡ false → (step t s x ≡ 255 → ⊥) → accept t (step t s x) ≡ 255 →
    run t s n k r (x ∷ xs) ≡ run t (step t s x) (n + 1) k r xs
run_step t s n k r x xs c e a = run_over t s n k r x xs (moves t s x c e) (eq-eqb (accept t (step t s x)) 255 a)

-- or to one that accepts a rule
pub run_accept : (t : Tables) (s n k r x : ℕ) (xs : List ℕ) → closed t s ≡ false → (step t s x ≡ 255 → ⊥) → (accept t (step t s x) ≡ 255 → ⊥) →
    run t s n k r (x ∷ xs) ≡ run t (step t s x) (n + 1) (n + 1) (accept t (step t s x)) xs
run_accept t s n k r x xs c e a = run_keep t s n k r x xs (moves t s x c e) (ne_eqb (accept t (step t s x)) 255 a)

-- the same for a loop over the symbols xs that stands before place i, where the code is x
pub run_end_at : (t : Tables) (s n k r : ℕ) (xs : List ℕ) (i : ℕ) → closed t s ≡ false → length xs ≤ i → run t s n k r (drop i xs) ≡ scan k r (n + 1)
run_end_at t s n k r xs i c h = ap (run t s n k r) (drop_all i xs h) ∙ run_end t s n k r c

before : (t : Tables) (s n k r : ℕ) (xs : List ℕ) (i x d : ℕ) → i < length xs → x ≡ get_or xs i d → run t s n k r (drop i xs) ≡ run t s n k r (x ∷ drop (i + 1) xs)
before t s n k r xs i x d h q = ap (run t s n k r) (drop_more xs i d h ∙ ap (λ z. z ∷ drop (i + 1) xs) (sym q))

pub run_none_at : (t : Tables) (s n k r : ℕ) (xs : List ℕ) (i x d : ℕ) → closed t s ≡ false → i < length xs → x ≡ get_or xs i d → step t s x ≡ 255 →
    run t s n k r (drop i xs) ≡ scan k r (n + 1)
run_none_at t s n k r xs i x d c h q e = before t s n k r xs i x d h q ∙ run_none t s n k r x (drop (i + 1) xs) c e

pub run_step_at : (t : Tables) (s n k r : ℕ) (xs : List ℕ) (i x d : ℕ) → closed t s ≡ false → i < length xs → x ≡ get_or xs i d → (step t s x ≡ 255 → ⊥) → accept t (step t s x) ≡ 255 →
    run t s n k r (drop i xs) ≡ run t (step t s x) (n + 1) k r (drop (i + 1) xs)
run_step_at t s n k r xs i x d c h q e a = before t s n k r xs i x d h q ∙ run_step t s n k r x (drop (i + 1) xs) c e a

pub run_accept_at : (t : Tables) (s n k r : ℕ) (xs : List ℕ) (i x d : ℕ) → closed t s ≡ false → i < length xs → x ≡ get_or xs i d → (step t s x ≡ 255 → ⊥) → (accept t (step t s x) ≡ 255 → ⊥) →
    run t s n k r (drop i xs) ≡ run t (step t s x) (n + 1) (n + 1) (accept t (step t s x)) (drop (i + 1) xs)
run_accept_at t s n k r xs i x d c h q e a = before t s n k r xs i x d h q ∙ run_accept t s n k r x (drop (i + 1) xs) c e a

-- the longest match of a path that begins with a step to p
longest_step : (t : Tables) (s p : ℕ) (ps : List ℕ) → longest t s (p ∷ ps) ≡ onward (not (eqb (accept t p) 255)) (longest t p ps)
longest_step t s p ps =
    greatest_onward (λ n. not (eqb (accept t (state s (p ∷ ps) n)) 255)) (length ps) ∙
    ap (onward (not (eqb (accept t p) 255))) (greatest_same (λ n. not (eqb (accept t (get_or (p ∷ ps) n s)) 255)) (λ n. not (eqb (accept t (get_or (p ∷ ps) n p)) 255)) (length ps) (λ i a b. ap (λ z. not (eqb (accept t z) 255)) (get_or_default (p ∷ ps) i s p (omega arith))))

longest_le : (t : Tables) (s : ℕ) (ps : List ℕ) → longest t s ps ≤ length ps
longest_le t s ps = greatest_le (λ n. not (eqb (accept t (state s ps n)) 255)) (length ps)

-- a scan that keeps k by rule r after n steps, and goes on to a longest match of l by rule a, or to none where l is 0
abbrev kept_then : ℕ → ℕ → ℕ → ℕ → ℕ → ℕ → Scan
kept_then n k r zero a h = scan k r (n + h)
kept_then n k r (suc l) a h = scan (n + suc l) a (n + h)

-- one step before a scan of length l and reading h, to a state that accepts no rule, and to one that accepts one;
-- f gives the rule at each length
then_over : (n k r l a h i : ℕ) (f : ℕ → ℕ) → f (suc l) ≡ a → i ≡ suc h → kept_then n k r (onward false l) (f (onward false l)) i ≡ kept_then (n + 1) k r l a h
then_over n k r zero a h i f e q = ap (scan k r) (omega arith)
then_over n k r (suc l) a h i f e q = scan_same (omega arith) e (omega arith)

then_keep : (n k r l a h i : ℕ) (f : ℕ → ℕ) → f (suc l) ≡ a → i ≡ suc h → kept_then n k r (onward true l) (f (onward true l)) i ≡ kept_then (n + 1) (n + 1) (f 1) l a h
then_keep n k r zero a h i f e q = ap (scan (n + 1) (f 1)) (omega arith)
then_keep n k r (suc l) a h i f e q = scan_same (omega arith) e (omega arith)

-- what a scan comes to by its path
abbrev by_path : Tables → ℕ → ℕ → ℕ → ℕ → List ℕ → Scan
by_path t s n k r ps = kept_then n k r (longest t s ps) (accept t (state s ps (longest t s ps))) (reading t s ps)

by_path_over : (t : Tables) (s p n k r : ℕ) (ps : List ℕ) → eqb (accept t p) 255 ≡ true → by_path t s n k r (p ∷ ps) ≡ by_path t p (n + 1) k r ps
by_path_over t s p n k r ps e =
    let f : ℕ → ℕ = λ i. accept t (state s (p ∷ ps) i) in
    let l : longest t s (p ∷ ps) ≡ onward false (longest t p ps) = longest_step t s p ps ∙ ap (λ b. onward (not b) (longest t p ps)) e in
    let q : f (suc (longest t p ps)) ≡ accept t (state p ps (longest t p ps)) = ap (accept t) (get_or_default (p ∷ ps) (longest t p ps) s p (omega (arith, longest_le t p ps))) in
    ap (λ z. kept_then n k r z (f z) (reading t s (p ∷ ps))) l ∙ then_over n k r (longest t p ps) (accept t (state p ps (longest t p ps))) (reading t p ps) (reading t s (p ∷ ps)) f q (omega arith)

by_path_keep : (t : Tables) (s p n k r : ℕ) (ps : List ℕ) → eqb (accept t p) 255 ≡ false → by_path t s n k r (p ∷ ps) ≡ by_path t p (n + 1) (n + 1) (accept t p) ps
by_path_keep t s p n k r ps e =
    let f : ℕ → ℕ = λ i. accept t (state s (p ∷ ps) i) in
    let l : longest t s (p ∷ ps) ≡ onward true (longest t p ps) = longest_step t s p ps ∙ ap (λ b. onward (not b) (longest t p ps)) e in
    let q : f (suc (longest t p ps)) ≡ accept t (state p ps (longest t p ps)) = ap (accept t) (get_or_default (p ∷ ps) (longest t p ps) s p (omega (arith, longest_le t p ps))) in
    ap (λ z. kept_then n k r z (f z) (reading t s (p ∷ ps))) l ∙ then_keep n k r (longest t p ps) (accept t (state p ps (longest t p ps))) (reading t p ps) (reading t s (p ∷ ps)) f q (omega arith)

-- the whole of a scan, from its path
run_path : (t : Tables) (s n k r : ℕ) (xs : List ℕ) → run t s n k r xs ≡ by_path t s n k r (path t s xs)
unfolding run
run_path t s n k r [] = ap (λ c. scan k r (n + c)) (sym (zero-add (cond (closed t s) 0 1)))
run_path t s n k r (x ∷ xs) =
    elim (cases_Bool (stuck t s x)) [
      | inl e ↦ run_stuck t s n k r x xs e ∙ ap (λ c. scan k r (n + c)) (sym (zero-add (cond (closed t s) 0 1))) ∙ ap (by_path t s n k r) (sym (path_stuck t s x xs e))
      | inr e ↦ elim (cases_Bool (eqb (accept t (step t s x)) 255)) [
        | inl a ↦ run_over t s n k r x xs e a ∙ run_path t (step t s x) (n + 1) k r xs ∙ sym (by_path_over t s (step t s x) n k r (path t (step t s x) xs) a) ∙ ap (by_path t s n k r) (sym (path_step t s x xs e))
        | inr a ↦ run_keep t s n k r x xs e a ∙ run_path t (step t s x) (n + 1) (n + 1) (accept t (step t s x)) xs ∙ sym (by_path_keep t s (step t s x) n k r (path t (step t s x) xs) a) ∙ ap (by_path t s n k r) (sym (path_step t s x xs e))
      ]
    ]

-- the entry that a scan in mode m gives
abbrev pub given_by : Tables → ℕ → Scan → Entry
given_by t m c = matched t m c.reading c.kept c.rule

pub given_none : (t : Tables) (m r h : ℕ) → given_by t m (scan 0 r h) ≡ entry 0 1 h m 0
given_none t m r h = refl

pub given_some : (t : Tables) (m k r h : ℕ) → 0 < k → given_by t m (scan k r h) ≡ entry (kind_of t r) k h (next_mode t r) 0
given_some t m zero r h l = absurd (omega arith)
given_some t m (suc k) r h l = refl

given_then : (t : Tables) (m r l a h : ℕ) → matched t m h l a ≡ given_by t m (kept_then 0 0 r l a h)
given_then t m r zero a h = ap (λ i. matched t m i 0 r) (sym (zero-add h))
given_then t m r (suc l) a h = ap₂ (λ j i. matched t m i j a) (sym (zero-add (suc l))) (sym (zero-add h))

-- the token is what a scan gives that begins in the mode's start state and has kept nothing yet, whatever r is
pub token_run : (t : Tables) (m r : ℕ) (xs : List ℕ) → token t m xs ≡ given_by t m (run t (start_state t m) 0 0 r xs)
unfolding token
token_run t m r xs =
    let s = start_state t m in
    let ps = path t s xs in
    given_then t m r (longest t s ps) (accept t (state s ps (longest t s ps))) (reading t s ps) ∙ ap (given_by t m) (sym (run_path t s 0 0 r xs))
