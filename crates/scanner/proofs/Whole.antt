-- The list of a whole text in memory, after both passes.
use Rattle.std.proofs.Common.{◌≡◌, ℕ, ◌+◌, ◌^◌, ◌<◌, ◌≤◌, ltb, List, ◌++◌, length, take, drop, Some, None, sym, ap, ◌∙◌, subst, arith}
use Rattle.std.proofs.lemmas.List.{length-append, length-take-le, take_at, drop_at}
use Rattle.std.proofs.lemmas.Bool.{lt-ltb, le-ltb, cond-true, cond-false}
use Rattle.books.specs.Tables.{Tables}
use Rattle.reading.specs.Reading.{Entry, read, listed, batch, start}
use Rattle.reading.proofs.Batch.{batch_some}
use Rattle.reading.proofs.Lookback.{length_listed}
use Rattle.reading.proofs.Lists.{start_zero}
use Rattle.scanner.specs.Spots.{Fit}
use Rattle.scanner.specs.Answer.{answer}
use Rattle.scanner.proofs.Alike.{set_from}
use Rattle.scanner.proofs.Written.{reach_within}

pub answer_some : (records symbols entries n : ℕ) → symbols < records → n ≡ entries → Some n ≡ answer records symbols entries
answer_some records symbols entries n h e = ap Some e ∙ sym (cond-true (ltb symbols records) (Some entries) None (lt-ltb symbols records h))

pub answer_none : (records symbols entries : ℕ) → records ≤ symbols → None ≡ answer records symbols entries
answer_none records symbols entries h = sym (cond-false (ltb symbols records) (Some entries) None (le-ltb symbols records h))

-- the first entry stands at 0
pub stands_first : (fs : List Entry) (number place : ℕ) → number ≡ 0 → place ≡ 0 → place ≡ start fs number
stands_first fs number place e f = f ∙ sym (start_zero fs) ∙ ap (start fs) (sym e)

-- what the first pass leaves: the first n records are the entries without their lookbacks
pub record Pass (t : Tables) (codes : List ℕ) (before now : List Entry) (n : ℕ) : Type 0 where
  pub within : n ≤ length now
  pub written : take n now ≡ read t 0 0 codes
  pub rest : drop n now ≡ drop n before

module _ (t : Tables) (codes : List ℕ) (before now : List Entry) (n : ℕ) (pass : Pass t codes before now n) where
  pub whole_fit : length codes + 1 < 2 ^ 64 → Fit (take n now)
  whole_fit h = subst Fit (sym pass.written) (λ i. omega (arith, reach_within t codes i))

  -- after the second pass, from entry 0 on, the lent part is the list
  pub whole_part : (from : ℕ) (part : List Entry) → from ≡ 0 → part ≡ set_from (take n now) (take n now) from → part ≡ batch t codes
  unfolding batch
  whole_part from part zero set = set ∙ ap (set_from (take n now) (take n now)) zero ∙ ap (λ fs. listed fs fs 0) pass.written

  size : length (batch t codes) ≡ n
  unfolding batch
  size = length_listed (read t 0 0 codes) (read t 0 0 codes) 0 ∙ ap length (sym pass.written) ∙ length-take-le n now pass.within

  -- and so the first m records of the memory are the list, and the others as they were
  module _ (part : List Entry) (is : part ≡ batch t codes) (m : ℕ) (e : m ≡ n) where
    long : length part ≡ m
    long = ap length is ∙ size ∙ sym e

    pub whole_size : m ≡ length (batch t codes)
    whole_size = e ∙ sym size

    pub whole_list : take m (part ++ drop n now) ≡ batch t codes
    whole_list = take_at part (drop n now) m long ∙ is

    pub whole_rest : drop m (part ++ drop n now) ≡ drop m before
    whole_rest = drop_at part (drop n now) m long ∙ pass.rest ∙ ap (λ k. drop k before) (sym e)

    pub whole_within : (1 ≤ m) × (m ≤ length (part ++ drop n now))
    whole_within = (omega (arith, batch_some t codes, whole_size), omega (arith, length-append part (drop n now), long))
