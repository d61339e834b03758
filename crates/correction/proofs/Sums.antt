-- Sums that stop growing at the greatest number of 64 bits, where the list's own fit.
use Rattle.std.proofs.Common.{◌≡◌, ℕ, ◌+◌, ◌-◌, ◌^◌, ◌<◌, ◌≤◌, min, ltb, List, length, sym, ap, ◌∙◌, inl, inr, arith}
use Rattle.std.proofs.lemmas.Bool.{cases_eq, lt-ltb, le-ltb}
use Rattle.reading.specs.Reading.{Entry, start, at, reach}
use Rattle.reading.specs.Laws.{mode_before}
use Rattle.reading.specs.Report.{first}
use Rattle.reading.proofs.Lists.{mode_before_more}
use Rattle.reading.proofs.Least.{least_is}
use Rattle.reading.proofs.First.{ShortOf}
use Rattle.scanner.specs.Spots.{Fit}
use Rattle.scanner.proofs.Starts.{sum_start}
use Rattle.correction.specs.declared.boundaries.Boundary.{Boundary}
use Rattle.correction.specs.Boundaries.{Stands, Passes}

-- the boundary behind an entry
pub stands_next : {L B : Type 0} (es : List Entry) → Fit es → (here next : Boundary L B) → Stands es here → (x : Entry) → at es here.at.number ≡ x →
    next.at.number ≡ here.at.number + 1 → next.at.start ≡ min (here.at.start + x.length) (2 ^ 64 - 1) → next.mode ≡ x.mode → Stands es next
stands_next es fit here next s x is n l m = (
  sum_start es fit here.at.number here.at.start s.0 x.length next.at.start (ap (λ y. y.length) is) l ∙ ap (start es) (sym n),
  m ∙ ap (λ y. y.mode) (sym is) ∙ sym (mode_before_more es here.at.number) ∙ ap (mode_before es) (sym n),
)

-- the first entry that reads a place, or the end of the list
pub first_found : (es : List Entry) (f a : ℕ) → ShortOf es f a → f ≤ length es → (f < length es → a < reach es f) → f ≡ first es a
first_found es f a short within reads =
    sym (least_is (λ j. ltb a (reach es j)) (length es) f within (λ h. lt-ltb a (reach es f) (reads h)) (λ i h. le-ltb a (reach es i) (short i h)))

-- passing entries one by one
module _ (es : List Entry) (from place was : ℕ) where
  -- the same without what holds where it stops
  pub record Passing (here reached : ℕ) : Type 0 where
    pub on : from ≤ here
    pub before : (i : ℕ) → from ≤ i → i < here → start es i < place
    pub reading : (i : ℕ) → from ≤ i → i < here → reach es i ≤ reached
    pub further : was ≤ reached

  pub passing_none : Passing from was
  passing_none = record { on = omega arith; before = λ i h l. absurd (omega arith); reading = λ i h l. absurd (omega arith); further = omega arith }

  pub passing_more : (here reached there next : ℕ) → Passing here reached → there ≡ here + 1 → start es here < place → reached ≤ next → reach es here ≤ next → Passing there next
  passing_more here reached there next p n s up r =
      record {
        on = omega (arith, p.on);
        before = λ i h l. elim (cases_eq i here) [ inl e ↦ omega (arith, ap (start es) e) | inr e ↦ p.before i h (omega arith) ];
        reading = λ i h l. elim (cases_eq i here) [ inl e ↦ omega (arith, ap (reach es) e) | inr e ↦ omega (arith, p.reading i h (omega arith)) ];
        further = omega (arith, p.further);
      }

  pub passing_all : (here reached : ℕ) → Passing here reached → (here < length es → place ≤ start es here) → Passes es from here place was reached
  passing_all here reached p to = record { on = p.on; before = p.before; reading = p.reading; further = p.further; to = to }

-- the same by other names
pub passes_known : (es : List Entry) (from here place was reached from' here' place' was' reached' : ℕ) → from ≡ from' → here' ≡ here → place ≡ place' → was ≡ was' → reached' ≡ reached →
    Passes es from here place was reached → Passes es from' here' place' was' reached'
passes_known es from here place was reached from' here' place' was' reached' a b c d e p =
    record {
      on = omega (arith, p.on);
      before = λ i h l. omega (arith, p.before i (omega arith) (omega arith));
      reading = λ i h l. omega (arith, p.reading i (omega arith) (omega arith));
      further = omega (arith, p.further);
      to = λ h. omega (arith, p.to (omega arith), ap (start es) b);
    }
