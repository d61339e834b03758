-- A list at the front of a memory, and the codes that it gives to the list above it.
use Rattle.std.proofs.Common.{◌≡◌, ℕ, zero, suc, ◌+◌, ◌-◌, ◌<◌, ◌≤◌, List, [], ◌∷◌, length, take, None, refl, ap, arith}
use Rattle.std.proofs.lemmas.List.{length-map, length-take-le}
use Rattle.std.proofs.lemmas.Bool.Decides.{nat_tests}
use Rattle.books.specs.Tables.{Tables}
use Rattle.reading.specs.Reading.{Entry, batch, kinds}
use Rattle.reading.proofs.Lists.{length_kinds}
use Rattle.reading.proofs.Batch.{batch_length}
use Rattle.scanner.specs.Numbers.{kinds_of}
use Rattle.scanner.specs.Answer.{answer}

-- a reading with memory enough is not refused
pub enough : (records symbols entries : ℕ) → symbols < records → None ≡ answer records symbols entries → ⊥
enough records symbols entries h e = grind (arith, nat_tests)

-- a list has at most one entry more than its text has symbols
pub count_within : (t : Tables) (s : List ℕ) (es : List Entry) (n : ℕ) → n ≤ length es → take n es ≡ batch t s → n ≤ length s + 1
count_within t s es n h e = omega (arith, batch_length t s, ap length e, length-take-le n es h)

-- the codes are those of the entries before the last
pub kinds_before : (es : List Entry) (n : ℕ) → n ≡ length es - 1 → kinds_of (take n es) ≡ kinds es
kinds_before [] zero h = refl
kinds_before [] (suc n) h = absurd (omega arith)
kinds_before (e ∷ []) zero h = refl
kinds_before (e ∷ []) (suc n) h = absurd (omega arith)
kinds_before (e ∷ f ∷ es) zero h = absurd (omega arith)
kinds_before (e ∷ f ∷ es) (suc n) h = ap (λ ks. e.kind ∷ ks) (kinds_before (f ∷ es) n (omega arith))

-- and there are no more of them than the text has symbols
pub kinds_within : (t : Tables) (s : List ℕ) → length (kinds (batch t s)) ≤ length s
kinds_within t s = omega (arith, length_kinds (batch t s), batch_length t s)

-- nor than there are entries before the last
pub codes_count : (es : List Entry) (n m : ℕ) → n ≡ length es - 1 → length es - 1 < m → length (kinds_of (take n es)) < m
codes_count es n m h k = omega (arith, length-map (take n es) (λ e. e.kind), length-take-le n es (omega arith))
