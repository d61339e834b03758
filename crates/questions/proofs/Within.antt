-- The token that a place lies in, by the sums of the lengths.
use Rattle.std.proofs.Common.{◌≡◌, ℕ, suc, ◌+◌, ◌-◌, ◌<◌, ◌≤◌, Bool, cond, ◌&&◌, eqb, ltb, List, length, Some, None, Option, sym, ap, ◌∙◌, arith}
use Rattle.std.proofs.lemmas.Bool.{lt-ltb, le-ltb, cond-true, cond-false}
use Rattle.reading.specs.Reading.{Entry, start, at}
use Rattle.reading.specs.Laws.{total_length}
use Rattle.reading.specs.Report.{least}
use Rattle.reading.proofs.Lists.{start_step, start_up, start_within}
use Rattle.reading.proofs.Least.{least_is}
use Rattle.requests.specs.Sheets.{where_in}

module _ (es : List Entry) (p : ℕ) where
  abbrev ends_behind : ℕ → Bool
  ends_behind i = ltb p (start es (suc i))

  abbrev at_last : Option (ℕ × ℕ)
  at_last = cond (eqb p (total_length es) && ltb 0 (length es)) (Some (length es - 1, 0)) None

  abbrev chosen : ℕ → Option (ℕ × ℕ)
  chosen j = cond (ltb j (length es)) (Some (j, p - start es j)) at_last

  -- token j starts at the place or before it, and ends behind it
  pub in_token : (j offset : ℕ) → j < length es → p ≡ start es j + offset → offset < (at es j).length → Some (j, offset) ≡ where_in es p
  unfolding where_in
  in_token j offset w s l =
      let found : least ends_behind (length es) ≡ j =
      least_is ends_behind (length es) j (omega arith) (λ _. lt-ltb p (start es (suc j)) (omega (arith, start_step es j))) (λ i k. le-ltb p (start es (suc i)) (omega (arith, start_up es (suc i) j (omega arith)))) in
      let same : offset ≡ p - start es j = omega arith in
      ap (λ n. Some (j, n)) same ∙ sym (ap chosen found ∙ cond-true (ltb j (length es)) _ _ (lt-ltb j (length es) w))

  -- no token ends behind the place
  pub past : total_length es ≤ p → where_in es p ≡ at_last
  unfolding where_in
  past h =
      let found : least ends_behind (length es) ≡ length es =
      least_is ends_behind (length es) (length es) (omega arith) (λ k. absurd (omega arith)) (λ i _. le-ltb p (start es (suc i)) (omega (arith, start_within es (suc i)))) in
      ap chosen found ∙ cond-false (ltb (length es) (length es)) _ _ (le-ltb (length es) (length es) (omega arith))
