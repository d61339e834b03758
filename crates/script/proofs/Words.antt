-- A word that is a table's pairs.
use Rattle.std.proofs.Common.{◌≡◌, ℕ, false, List, [], ◌∷◌, length, Ok, codes, refl}
use Rattle.std.specs.Option.{ok_or}
use Rattle.std.specs.Str.{bytes_eq}
use Rattle.std.proofs.lemmas.Slice.Eq.{bytes_eq-Decides}
use Rattle.std.proofs.lemmas.Bool.{false_from_ne_true, cond-false}
use Rattle.script.specs.declared.wrong.Wrong.TheVariants.{Table}
use Rattle.script.specs.Fields.{pairs, table_of}

pub other_word : (w v : List ℕ) → (w ≡ v → ⊥) → bytes_eq w v ≡ false
other_word w v n = false_from_ne_true (bytes_eq w v) (λ t. n ((bytes_eq-Decides w v).0 t))

pub table_pairs : (w : List ℕ) → (length w ≡ 0 → ⊥) → (w ≡ codes "-" → ⊥) → table_of w ≡ ok_or (pairs w) Table
table_pairs [] ne nd = absurd (ne refl)
table_pairs (b ∷ bs) ne nd = cond-false (bytes_eq (b ∷ bs) (codes "-")) (Ok []) (ok_or (pairs (b ∷ bs)) Table) (other_word (b ∷ bs) (codes "-") nd)
