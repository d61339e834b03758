-- A table of pairs, two bytes each, read pair by pair.
use Rattle.std.proofs.Common.{◌≡◌, ℕ, zero, suc, ◌+◌, ◌*◌, ◌<◌, Bool, List, [], ◌∷◌, length, get_or, drop, not, refl, ap, ◌∙◌, arith}
use Rattle.std.specs.List.{position, position_or_len, range_with_len}
use Rattle.std.specs.Simd.{first_chunks}
use Rattle.std.proofs.lemmas.List.{get_or-take, get_or-drop}
use Rattle.std.proofs.lemmas.List.FromFn.{length-range_with_len, get_or-range_with_len}
use Rattle.books.specs.Tables.{kind_of, next_mode}
use Rattle.books.specs.Check.{Plan, kind_and_mode_right, rule_right, wrong_rule}

-- byte e of pair i stands at 2 i + e
pair_at : (n : ℕ) (xs : List ℕ) (i e j : ℕ) → i < n → e < 2 → 2 * i + e ≡ j → get_or (get_or (first_chunks 2 n xs) i []) e 0 ≡ get_or xs j 0
pair_at zero xs i e j h low at = absurd (omega arith)
pair_at (suc n) xs zero e j h low at =
    let same : e ≡ j = omega arith in get_or-take 2 xs e 0 low ∙ ap (λ (k : ℕ). get_or xs k 0) same
pair_at (suc n) xs (suc i) e j h low at =
    let same : 2 + (2 * i + e) ≡ j = omega arith in
    pair_at n (drop 2 xs) i e (2 * i + e) (let below : i < n = omega arith in below) low refl ∙ get_or-drop 2 xs (2 * i + e) 0
    ∙ ap (λ (k : ℕ). get_or xs k 0) same

length-pairs : (n : ℕ) (xs : List ℕ) → length (first_chunks 2 n xs) ≡ n
length-pairs zero xs = refl
length-pairs (suc n) xs = let rest = length-pairs n (drop 2 xs) in omega arith

-- two tests that answer alike at each place find the same place first
same_first : {A B : Type 0} (p : A → Bool) (q : B → Bool) (xs : List A) (ys : List B) (a : A) (b : B) → length xs ≡ length ys → ((i : ℕ) → i < length xs → p (get_or xs i a) ≡ q (get_or ys i b)) → position_or_len p xs ≡ position_or_len q ys
same_first p q [] [] a b long alike = refl
same_first p q [] (y ∷ ys) a b long alike = absurd (omega arith)
same_first p q (x ∷ xs) [] a b long alike = absurd (omega arith)
same_first p q (x ∷ xs) (y ∷ ys) a b long alike =
    let here : p x ≡ q y = alike 0 (omega arith) in
    let rest : position_or_len p xs ≡ position_or_len q ys = same_first p q xs ys a b (omega arith) (λ i h. alike (suc i) (omega arith)) in rw (here, rest)

same_position : {A B : Type 0} (p : A → Bool) (q : B → Bool) (xs : List A) (ys : List B) (a : A) (b : B) → length xs ≡ length ys → ((i : ℕ) → i < length xs → p (get_or xs i a) ≡ q (get_or ys i b)) → position p xs ≡ position q ys
same_position p q xs ys a b long alike = let first = same_first p q xs ys a b long alike in rw (first, long)

-- the first wrong pair is the first wrong rule
pub rules_in_pairs : (p : Plan) → position (λ (pair : List ℕ). not (kind_and_mode_right p (get_or pair 0 0) (get_or pair 1 0))) (first_chunks 2 p.rules p.tables.rules) ≡ wrong_rule p
rules_in_pairs p =
    same_position (λ (pair : List ℕ). not (kind_and_mode_right p (get_or pair 0 0) (get_or pair 1 0))) (λ r. not (rule_right p r))
    (first_chunks 2 p.rules p.tables.rules) (range_with_len 0 p.rules) [] 0 (omega (arith, length-pairs p.rules p.tables.rules, length-range_with_len 0 p.rules)) (λ i h.
    let within : i < p.rules = omega (arith, length-pairs p.rules p.tables.rules) in
    let at : get_or (range_with_len 0 p.rules) i 0 ≡ i = omega (arith, get_or-range_with_len 0 p.rules i 0 within) in
    let kind : get_or (get_or (first_chunks 2 p.rules p.tables.rules) i []) 0 0 ≡ kind_of p.tables i = pair_at p.rules p.tables.rules i 0 (2 * i) within (omega arith) (omega arith) in
    let mode : get_or (get_or (first_chunks 2 p.rules p.tables.rules) i []) 1 0 ≡ next_mode p.tables i = pair_at p.rules p.tables.rules i 1 (2 * i + 1) within (omega arith) (omega arith) in
    rw (at, kind, mode))
