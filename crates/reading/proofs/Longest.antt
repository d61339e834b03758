-- A token is the longest match.
use Rattle.std.proofs.Common.{◌≡◌, ℕ, zero, suc, ◌<◌, ◌≤◌, Bool, true, false, cond, not, eqb, List, length, take, MatchBool, sym, refl, ap, ◌∙◌, subst, inl, inr, arith}
use Rattle.std.proofs.lemmas.Bool.{cases_lt, cond-false, not-true, not-false, eqb-true}
use Rattle.books.specs.Tables.{Tables, accept, kind_of, next_mode, start_state}
use Rattle.reading.specs.Reading.{path, state, longest, reading, matched, token}
use Rattle.reading.specs.Laws.{rule_of, Given, LongestMatch}
use Rattle.reading.proofs.Greatest.{greatest_le, greatest_passes, greatest_above}
use Rattle.reading.proofs.Path.{path_length, after_take, after_past, path_some}

-- the rule of a state, where 255 is none
abbrev rule_in : Tables → ℕ → ℕ
rule_in t s = cond (eqb s 255) 255 (accept t s)

both_none : (b : Bool) (a : ℕ) → a ≡ 255 → cond b 255 a ≡ 255
both_none true a e = refl
both_none false a e = e

-- a match by a rule is what the rule gives
given_rule : (t : Tables) (m h n r : ℕ) → eqb r 255 ≡ false → Given t m r (matched t m h (suc n) r)
given_rule t m h n r e =
    subst
    (λ b. MatchBool b ((kind_of t r ≡ 0) × (suc n ≡ 1) × (next_mode t r ≡ m)) ((kind_of t r ≡ kind_of t r) × (next_mode t r ≡ next_mode t r)))
    (sym e)
    (refl, refl)

module _ (t : Tables) (m : ℕ) (xs : List ℕ) where
  abbrev s : ℕ
  s = start_state t m

  abbrev ps : List ℕ
  ps = path t s xs

  abbrev test : ℕ → Bool
  test n = not (eqb (accept t (state s ps n)) 255)

  abbrev most : ℕ
  most = longest t s ps

  -- past the longest match no prefix is accepted
  past : (n : ℕ) → most < n → n ≤ length xs → rule_of t m (take n xs) ≡ 255
  past n h l =
      elim (cases_lt (length ps) n) [
        | inl p ↦ ap (rule_in t) (after_past t s xs n p l)
        | inr p ↦ both_none _ _ (ap (accept t) (after_take t s xs n p) ∙ eqb-true _ 255 (not-false _ (greatest_above test (length ps) n h p)))
      ]

  -- a prefix of n steps, one at least, is accepted by the rule of its state
  accepted : (n : ℕ) → n < length ps → rule_of t m (take (suc n) xs) ≡ accept t (state s ps (suc n))
  accepted n h = ap (rule_in t) (after_take t s xs (suc n) h) ∙ cond-false _ _ _ (path_some t s xs n h)

  abbrev Longest : ℕ → Type 0
  Longest n = LongestMatch t m xs (matched t m (reading t s ps) n (accept t (state s ps n)))

  longest_at : (n : ℕ) → most ≡ n → 0 < length xs → Longest n
  longest_at zero e h =
      let none : rule_of t m (take 1 xs) ≡ 255 = past 1 (omega arith) h in
      record {
        some = omega arith;
        within = h;
        given = subst (λ r. Given t m r (matched t m (reading t s ps) zero (accept t (state s ps zero)))) (sym none) (refl, refl, refl);
        no_longer = λ n a b. past n (omega arith) b;
      }
  longest_at (suc n) e h =
      let fits : suc n ≤ length ps = omega (arith, greatest_le test (length ps)) in
      let passes : test (suc n) ≡ true = elim (greatest_passes test (length ps)) [ inl z ↦ absurd (omega arith) | inr y ↦ ap test (sym e) ∙ y ] in
      let rule : rule_of t m (take (suc n) xs) ≡ accept t (state s ps (suc n)) = accepted n fits in
      record {
        some = omega arith;
        within = omega (arith, path_length t s xs);
        given = subst (λ r. Given t m r (matched t m (reading t s ps) (suc n) (accept t (state s ps (suc n))))) (sym rule) (given_rule t m (reading t s ps) n (accept t (state s ps (suc n))) (not-true _ passes));
        no_longer = λ n a b. past n (omega arith) b;
      }

pub longest_match : (t : Tables) (m : ℕ) (xs : List ℕ) → 0 < length xs → LongestMatch t m xs (token t m xs)
unfolding token
longest_match t m xs h = longest_at t m xs (longest t (start_state t m) (path t (start_state t m) xs)) refl h
