-- The lines of a script, one after the other.
use Rattle.std.proofs.Common.{◌≡◌, ℕ, suc, ◌<◌, ◌≤◌, length-drop, eqb, List, [], ◌∷◌, length, drop, sym, refl, ap, ◌∙◌, subst, inl, inr, arith}
use Rattle.std.proofs.lemmas.Bool.{cases_eq, cond-false, ne_eqb}
use Rattle.script.specs.Fields.{front, onward}
use Rattle.script.specs.Scripts.{onto_first, lines_of}

-- a script's first line
nonempty : (bs : List ℕ) → suc (length bs) ≡ 0 → ⊥
nonempty bs e = omega (arith, e)

at_newline : (b : ℕ) (bs : List ℕ) → b ≡ 10 → lines_of (b ∷ bs) ≡ front 10 (b ∷ bs) ∷ lines_of (drop 1 (onward 10 (b ∷ bs)))
at_newline b bs e = subst (λ x. lines_of (x ∷ bs) ≡ front 10 (x ∷ bs) ∷ lines_of (drop 1 (onward 10 (x ∷ bs)))) (sym e) refl

at_other : (b : ℕ) (bs : List ℕ) → (b ≡ 10 → ⊥) → onto_first b (lines_of bs) ≡ (b ∷ front 10 bs) ∷ lines_of (drop 1 (onward 10 bs)) →
    lines_of (b ∷ bs) ≡ front 10 (b ∷ bs) ∷ lines_of (drop 1 (onward 10 (b ∷ bs)))
at_other b bs n e =
    let no = ne_eqb b 10 n in
    cond-false (eqb b 10) ([] ∷ lines_of bs) (onto_first b (lines_of bs)) no ∙ e
    ∙ sym (
    ap (λ l. l ∷ lines_of (drop 1 (onward 10 (b ∷ bs)))) (cond-false (eqb b 10) [] (b ∷ front 10 bs) no)
    ∙ ap (λ xs. (b ∷ front 10 bs) ∷ lines_of (drop 1 xs)) (cond-false (eqb b 10) (b ∷ bs) (onward 10 bs) no)
    )

pub lines_first : (bs : List ℕ) → (length bs ≡ 0 → ⊥) → lines_of bs ≡ front 10 bs ∷ lines_of (drop 1 (onward 10 bs))
lines_first [] h = absurd (h refl)
lines_first (b ∷ []) h = elim (cases_eq b 10) [ inl e ↦ at_newline b [] e | inr n ↦ at_other b [] n refl ]
lines_first (b ∷ c ∷ bs) h =
    elim (cases_eq b 10) [
      | inl e ↦ at_newline b (c ∷ bs) e
      | inr n ↦ at_other b (c ∷ bs) n (ap (onto_first b) (lines_first (c ∷ bs) (λ z. absurd (nonempty bs z))))
    ]

-- what is behind the first line
onward_within : (e : ℕ) (bs : List ℕ) → length (onward e bs) ≤ length bs
onward_within e [] = omega arith
onward_within e (b ∷ bs) = grind (arith, onward_within e bs)

pub shorter : (bs : List ℕ) → (length bs ≡ 0 → ⊥) → length (drop 1 (onward 10 bs)) < length bs
shorter bs some = grind (arith, length-drop {A = ℕ}, onward_within 10 bs)
