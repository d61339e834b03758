-- Where entries start, and sums that stop growing at the greatest number of 64 bits, where the list's own fit.
use Rattle.std.proofs.Common.{◌≡◌, ℕ, ◌+◌, ◌-◌, ◌^◌, ◌<◌, min, List, length, get_or, take, drop, sym, ap, ◌∙◌, arith}
use Rattle.std.proofs.lemmas.List.{get_or_read, get_or-take, get_or-drop, length-take}
use Rattle.reading.specs.Reading.{Entry, none, start, at, reach}
use Rattle.reading.proofs.Lists.{start_more}
use Rattle.scanner.specs.Spots.{Fit}

module _ (es : List Entry) (fit : Fit es) (j here : ℕ) (stands : here ≡ start es j) where
  -- where the next entry starts
  pub sum_start : (long sum : ℕ) → (at es j).length ≡ long → sum ≡ min (here + long) (2 ^ 64 - 1) → sum ≡ start es (j + 1)
  sum_start long sum e s = omega (arith, start_more es j, fit (j + 1))

  -- where this one's reading ends
  pub sum_reach : (read sum : ℕ) → (at es j).reading ≡ read → sum ≡ min (here + read) (2 ^ 64 - 1) → sum ≡ reach es j
  sum_reach read sum e s = omega (arith, fit j)

-- a start that is known by other names
pub start_is : (es : List Entry) (i j m n : ℕ) → m ≡ n → n ≡ start es i → j ≡ i → m ≡ start es j
start_is es i j m n e f k = e ∙ f ∙ ap (start es) (sym k)

-- what stands in a part of a list
pub at_part : (es : List Entry) (from to k : ℕ) (x : Entry) → k < length (take (to - from) (drop from es)) → x ≡ get_or (take (to - from) (drop from es)) k x → at es (from + k) ≡ x
at_part es from to k x h e =
    sym (get_or_read (take (to - from) (drop from es)) k x h e none ∙ get_or-take (to - from) (drop from es) k none (omega (arith, length-take (to - from) (drop from es))) ∙ get_or-drop from es k none)
