-- The pointer of the lookbacks at entry n, which starts here, on its way to an entry that starts at `place`: none that it has passed reads so far.
use Rattle.std.proofs.Common.{◌≡◌, ℕ, ◌+◌, ◌-◌, ◌^◌, ◌<◌, ◌≤◌, min, ◌⊎◌, List, sym, ap, ◌∙◌, inl, inr, arith}
use Rattle.std.proofs.lemmas.Bool.{cases_eq}
use Rattle.reading.specs.Reading.{Entry, start, at, reach, lookback}
use Rattle.reading.proofs.Lookback.{lookback_is}
use Rattle.scanner.specs.Spots.{Fit, ReadsStart}
use Rattle.scanner.proofs.Starts.{sum_start, sum_reach}

module _ (es : List Entry) (fit : Fit es) (place n here : ℕ) (stands : here ≡ start es n) (passed : (i : ℕ) → i < n → reach es i ≤ place) where
  -- it looks at the entry
  module _ (x : Entry) (is : at es n ≡ x) (far : ℕ) (far_is : far ≡ min (here + x.reading) (2 ^ 64 - 1)) where
    pub points_on : far ≤ place → (m next : ℕ) → m ≡ n + 1 → next ≡ min (here + x.length) (2 ^ 64 - 1) →
        (next ≡ start es m) × ((i : ℕ) → i < m → reach es i ≤ place)
    points_on h m next e f =
        let reads = sum_reach es fit n here stands x.reading far (ap (λ y. y.reading) is) far_is in (
          sum_start es fit n here stands x.length next (ap (λ y. y.length) is) f ∙ ap (start es) (sym e),
          λ i l. elim (cases_eq i n) [ inl q ↦ omega (arith, reads, ap (reach es) q) | inr q ↦ passed i (omega arith) ],
        )

    pub reads_so_far : place < far → place < reach es n
    reads_so_far h = omega (arith, sum_reach es fit n here stands x.reading far (ap (λ y. y.reading) is) far_is)

  -- it stops
  module _ (j : ℕ) (target : place ≡ start es j) (to : n ≤ j) (reads : (n ≡ j) ⊎ (place < reach es n)) where
    reads_start : (n ≡ j) ⊎ (start es j < reach es n)
    reads_start = elim reads [ inl e ↦ inl e | inr h ↦ inr (omega (arith, target)) ]

    pub points_to : ReadsStart es n j
    points_to = record { to = to; passed = λ i h. omega (arith, passed i h, target); reads = reads_start }

    pub points_to_earliest : n ≡ j - lookback es j
    points_to_earliest = omega (arith, lookback_is es n j to points_to.passed reads_start)
