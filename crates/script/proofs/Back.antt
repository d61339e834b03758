-- What is printed of a text is read back as the text.
use Rattle.std.proofs.Common.{◌≡◌, ℕ, suc, ◌/◌, ◌%◌, ◌<◌, cond, ◌&&◌, eqb, leb, List, [], ◌∷◌, ◌++◌, get_or, Some, None, Ok, Result, sym, refl, ap, ◌∙◌, subst, ap₂, inl, inr, append_assoc, arith}
use native.Mathlib.Nat.{div-add-mod}
use Rattle.std.specs.Char.{digit_char}
use Rattle.std.specs.Option.{option_map}
use Rattle.std.proofs.lemmas.Bool.{cases_eq, cond-false, cond_both, ne_eqb}
use Rattle.std.proofs.lemmas.Bool.Decides.{nat_tests}
use Rattle.script.specs.declared.wrong.Wrong.{Wrong}
use Rattle.script.specs.declared.texts.Spot.{Spot}
use Rattle.script.specs.declared.texts.Spot.TheVariants.{Plain, Slash}
use Rattle.script.specs.declared.texts.Move.TheVariants.{Close, Give, Go}
use Rattle.script.specs.Hex.{hex, both, pair}
use Rattle.script.specs.Shown.{short, shown_as, shown, escaped}
use Rattle.script.specs.Texts.{text_of}
use Rattle.script.specs.Quoted.{then_read, on_move, read_from, quoted_text}
use Rattle.script.proofs.Spelt.{text_alone}

pub hex_char : (d : ℕ) → d < 16 → hex (digit_char d) ≡ Some d
hex_char d h = grind (arith, nat_tests)

pub pair_chars : (b : ℕ) → b < 256 → pair (digit_char (b / 16)) (digit_char (b % 16)) ≡ Some b
pair_chars b h =
    let high : b / 16 < 16 = omega arith in
    let low : b % 16 < 16 = omega arith in
    ap₂ both (hex_char (b / 16) high) (hex_char (b % 16) low) ∙ ap Some (div-add-mod b 16)

-- a byte by two hex digits
by_digits : (b h l : ℕ) (t : List ℕ) → pair h l ≡ Some b → read_from (92 ∷ 120 ∷ h ∷ l ∷ t) Plain ≡ then_read (b ∷ []) (read_from t Plain)
by_digits b h l t e = ap (λ o. on_move (option_map (λ x. Give x) o) t (λ p. read_from t p)) e

-- a byte that stands for itself
itself : (b : ℕ) (t : List ℕ) → (b ≡ 34 → ⊥) → (b ≡ 92 → ⊥) → read_from (b ∷ t) Plain ≡ then_read (b ∷ []) (read_from t Plain)
itself b t q s =
    let from : Spot → Result (List ℕ × List ℕ) Wrong = λ p. read_from t p in
    ap (λ m. on_move m t from) (cond-false (eqb b 34) (Some Close) (cond (eqb b 92) (Some (Go Slash)) (Some (Give b))) (ne_eqb b 34 q) ∙ cond-false (eqb b 92) (Some (Go Slash)) (Some (Give b)) (ne_eqb b 92 s))

pub unnamed : (b : ℕ) → (b ≡ 92 → ⊥) → (b ≡ 34 → ⊥) → (b ≡ 10 → ⊥) → (b ≡ 13 → ⊥) → (b ≡ 9 → ⊥) → short b ≡ None
unnamed b s q n r t = grind (arith, nat_tests)

-- a byte that is shown is one of those with a letter, or another
pub shown_cases : (P : ℕ → List ℕ → Type 0) → P 92 (92 ∷ 92 ∷ []) → P 34 (92 ∷ 34 ∷ []) → P 10 (92 ∷ 110 ∷ []) → P 13 (92 ∷ 114 ∷ []) → P 9 (92 ∷ 116 ∷ []) →
    ((b : ℕ) → (b ≡ 92 → ⊥) → (b ≡ 34 → ⊥) → (b ≡ 10 → ⊥) → P b (shown_as b None)) → (b : ℕ) → P b (shown b)
shown_cases P slash quote newline return tab other b =
    let Q : ℕ → Type 0 = λ x. P x (shown x) in
    elim (cases_eq b 92) [
      | inl e ↦ subst Q (sym e) slash
      | inr s ↦
          elim (cases_eq b 34) [
            | inl e ↦ subst Q (sym e) quote
            | inr q ↦
                elim (cases_eq b 10) [
                  | inl e ↦ subst Q (sym e) newline
                  | inr n ↦
                      elim (cases_eq b 13) [
                        | inl e ↦ subst Q (sym e) return
                        | inr r ↦ elim (cases_eq b 9) [ inl e ↦ subst Q (sym e) tab | inr k ↦ subst (λ o. P b (shown_as b o)) (sym (unnamed b s q n r k)) (other b s q n) ]
                      ]
                ]
          ]
    ]

-- a byte that no letter stands for
rest : (b : ℕ) (t : List ℕ) → b < 256 → (b ≡ 34 → ⊥) → (b ≡ 92 → ⊥) → read_from (shown_as b None ++ t) Plain ≡ then_read (b ∷ []) (read_from t Plain)
rest b t h q s =
    let hexes : List ℕ = 92 ∷ 120 ∷ digit_char (b / 16) ∷ digit_char (b % 16) ∷ [] in
    cond_both (leb 32 b && leb b 126) (b ∷ []) hexes (λ xs. read_from (xs ++ t) Plain ≡ then_read (b ∷ []) (read_from t Plain))
    (λ _. itself b t q s)
    (λ _. by_digits b (digit_char (b / 16)) (digit_char (b % 16)) t (pair_chars b h))

pub one : (b : ℕ) (t : List ℕ) → b < 256 → read_from (shown b ++ t) Plain ≡ then_read (b ∷ []) (read_from t Plain)
one b t h =
    shown_cases (λ x xs. x < 256 → read_from (xs ++ t) Plain ≡ then_read (x ∷ []) (read_from t Plain))
    (λ _. refl) (λ _. refl) (λ _. refl) (λ _. refl) (λ _. refl) (λ x s q _ small. rest x t small q s) b h

pub quoted_back : (s : List ℕ) (rest : List ℕ) → ((k : ℕ) → get_or s k 0 < 256) → quoted_text (escaped s ++ (34 ∷ rest)) ≡ Ok (s, rest)
quoted_back [] rest h = refl
quoted_back (b ∷ s) rest h =
    ap (λ xs. read_from xs Plain) (append_assoc (shown b) (escaped s) (34 ∷ rest))
    ∙ one b (escaped s ++ (34 ∷ rest)) (h 0)
    ∙ ap (then_read (b ∷ [])) (quoted_back s rest (λ k. h (suc k)))

pub reads_back : (s : List ℕ) (rest : List ℕ) → ((k : ℕ) → get_or s k 0 < 256) → text_of (escaped s ++ (34 ∷ rest)) ≡ Some (s, rest)
reads_back s rest h = text_alone (escaped s ++ (34 ∷ rest)) (s, rest) (quoted_back s rest h)
