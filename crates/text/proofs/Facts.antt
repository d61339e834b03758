-- What follows of a replace that is taken, for whoever rests on a store.
use Rattle.std.proofs.Common.{◌≡◌, ℕ, ◌+◌, ◌-◌, ◌≤◌, List, length, None, Option, arith, length-append, length-drop, length-take}
use Rattle.std.proofs.lemmas.Bool.Decides.{nat_tests}
use Rattle.text.specs.declared.fault.StoreFault.{StoreFault}
use Rattle.text.specs.Refused.{refused}
use Rattle.text.specs.Replaced.{replaced}

-- what the three questions asked
pub taken : (n r a c i : ℕ) → ◌≡◌ {A = Option StoreFault} None (refused n r a c i) → (a + c ≤ n) × (n - c + i ≤ r)
taken n r a c i e = (grind (arith, nat_tests), grind (arith, nat_tests))

pub length_replaced : (s : List ℕ) (a c : ℕ) (i : List ℕ) → a + c ≤ length s → length (replaced s a c i) ≡ length s - c + length i
length_replaced s a c i h = simp (length-append, length-take, length-drop) (omega arith)
