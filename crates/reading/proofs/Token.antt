-- What holds of every token: its length and its reading, and in a sound book its kind and its mode.
use Rattle.std.proofs.Common.{◌≡◌, ℕ, zero, suc, ◌+◌, ◌<◌, ◌≤◌, Bool, true, false, cond, not, eqb, ltb, List, length, sym, refl, ap, ◌∙◌, subst, inl, inr, arith}
use Rattle.std.proofs.lemmas.Bool.{or_cases, not-true, ltb-true, both_ways}
use Rattle.books.specs.Tables.{Tables, closed, accept, start_state}
use Rattle.books.specs.Sound.{Sound}
use Rattle.reading.specs.Reading.{Entry, path, state, final, longest, reading, matched, token}
use Rattle.reading.proofs.Greatest.{greatest_le, greatest_passes}
use Rattle.reading.proofs.Local.{open_reads, token_reading}
use Rattle.reading.proofs.Path.{path_length, path_below}
use Rattle.reading.proofs.Longest.{longest_match}

matched_some : (t : Tables) (m r n rule : ℕ) → 1 ≤ (matched t m r n rule).length
matched_some t m r zero rule = omega arith
matched_some t m r (suc n) rule = omega arith

pub token_some : (t : Tables) (m : ℕ) (xs : List ℕ) → 1 ≤ (token t m xs).length
unfolding token
token_some t m xs = matched_some t m (reading t (start_state t m) (path t (start_state t m) xs)) (longest t (start_state t m) (path t (start_state t m) xs)) (accept t (state (start_state t m) (path t (start_state t m) xs) (longest t (start_state t m) (path t (start_state t m) xs))))

pub token_within : (t : Tables) (m : ℕ) (xs : List ℕ) → 0 < length xs → (token t m xs).length ≤ length xs
token_within t m xs h = (longest_match t m xs h).within

cond_small : (b : Bool) → cond b 0 1 ≤ 1
cond_small true = omega arith
cond_small false = omega arith

-- a token reads no further than the end
pub token_reading_within : (t : Tables) (m : ℕ) (xs : List ℕ) → (token t m xs).reading ≤ length xs + 1
token_reading_within t m xs =
    omega (arith, token_reading t m xs, path_length t (start_state t m) xs, cond_small (closed t (final (start_state t m) (path t (start_state t m) xs))))

module _ (t : Tables) (b : Sound t) (m : ℕ) (mode : m < length t.starts) where
  pub token_reads : (xs : List ℕ) → 1 ≤ (token t m xs).reading
  token_reads xs = omega (arith, token_reading t m xs, open_reads t (start_state t m) (path t (start_state t m) xs) (b.start_open m mode))

  -- the rule that a match is by
  rule_below : (xs : List ℕ) (n : ℕ) → longest t (start_state t m) (path t (start_state t m) xs) ≡ suc n → accept t (state (start_state t m) (path t (start_state t m) xs) (suc n)) < b.rules
  rule_below xs n e =
      let s = start_state t m in
      let ps = path t s xs in
      let test : ℕ → Bool = λ i. not (eqb (accept t (state s ps i)) 255) in
      let fits : suc n ≤ length ps = omega (arith, greatest_le test (length ps)) in
      let passes : test (suc n) ≡ true = elim (greatest_passes test (length ps)) [ inl z ↦ absurd (omega arith) | inr y ↦ ap test (sym e) ∙ y ] in
      let r = accept t (state s ps (suc n)) in
      elim (or_cases (ltb r b.rules) (eqb r 255) (b.accept_below (state s ps (suc n)) (path_below t b s xs (suc n) (b.start_below m mode) fits))) [
        | inl l ↦ ltb-true r b.rules l
        | inr l ↦ absurd (both_ways (eqb r 255) (not-true (eqb r 255) passes) l)
      ]

  -- a token is no end token, and it leaves a mode of the book
  abbrev Fine : Entry → Type 0
  Fine e = (e.kind ≡ 1 → ⊥) × (e.mode < length t.starts)

  matched_fine : (r n rule : ℕ) → ((k : ℕ) → n ≡ suc k → rule < b.rules) → Fine (matched t m r n rule)
  matched_fine r zero rule h = (λ e. omega arith, mode)
  matched_fine r (suc n) rule h = (λ e. omega (arith, b.rule_kind rule (h n refl)), b.rule_mode rule (h n refl))

  token_fine : (xs : List ℕ) → Fine (token t m xs)
  unfolding token
  token_fine xs =
      let s = start_state t m in
      let ps = path t s xs in
      let n = longest t s ps in
      matched_fine (reading t s ps) n (accept t (state s ps n)) (λ k e. subst (λ i. accept t (state s ps i) < b.rules) (sym e) (rule_below xs k e))

  pub token_no_end : (xs : List ℕ) → (token t m xs).kind ≡ 1 → ⊥
  token_no_end xs = (token_fine xs).0

  pub token_mode : (xs : List ℕ) → (token t m xs).mode < length t.starts
  token_mode xs = (token_fine xs).1
