-- Kinds of tokens compared.
use Rattle.std.proofs.Common.{◌≡◌, ℕ, ◌-◌, ◌^◌, ◌<◌, min, Bool, true, false, List, [], ◌∷◌, length, take, drop, Some, None, Option, eqb, nat_eq, sym, refl, ap, ◌∙◌, subst, arith}
use Rattle.std.specs.List.{AllZip}
use Rattle.std.specs.Option.{MatchOption, IfSome}
use Rattle.std.specs.Iterator.{AlwaysYields, YieldsThen, ComparesItemsByEq}
use Rattle.std.proofs.lemmas.Bool.{and_right}
use Rattle.std.proofs.lemmas.Bool.Decides.{nat_tests}
use Rattle.std.proofs.lemmas.Iterator.{YieldsList}
use Rattle.std.proofs.lemmas.List.{length-map, take-map, drop-map}
use Rattle.std.proofs.lemmas.Grind.{common_steps}
use Rattle.reading.specs.Reading.{Entry, start, at}
use Rattle.scanner.specs.Numbers.{kinds_of}
use Rattle.requests.specs.Sheets.{same, kinds_in}

-- lists of two lengths are not the same
pub same_lengths : (xs ys : List ℕ) → (length xs ≡ length ys → ⊥) → false ≡ same xs ys
same_lengths [] [] h = absurd (h refl)
same_lengths [] (y ∷ ys) h = refl
same_lengths (x ∷ xs) [] h = refl
same_lengths (x ∷ xs) (y ∷ ys) h = sym (and_right (eqb x y) (same xs ys) (sym (same_lengths xs ys (λ e. h (omega arith)))))

pub other_lengths : (a b : List Entry) → (length a ≡ length b → ⊥) → false ≡ same (kinds_of a) (kinds_of b)
other_lengths a b h = same_lengths (kinds_of a) (kinds_of b) (λ e. h (omega (arith, length-map a (λ x. x.kind), length-map b (λ x. x.kind))))

-- what `eq` answers of two chains that give the numbers ks and ls
module _ {S T : Type 0} (steps : S → Option ℕ → S → Type 0) (others : T → Option ℕ → T → Type 0) where
  ended : (s u : S) (t v : T) (ks ls : List ℕ) (o p : Option ℕ) (r : Bool) → AlwaysYields steps (λ x. x) s ks → AlwaysYields others (λ x. x) t ls → steps s o u → others t p v →
      MatchOption o (MatchOption p (r ≡ true) (λ _. r ≡ false)) (λ x. (r ≡ false) × IfSome p (λ y. nat_eq x y ≡ false)) → r ≡ same ks ls
  ended s u t v [] [] None None r a b f g h = h
  ended s u t v [] [] None (Some y) r a b f g h = absurd (b y v g)
  ended s u t v [] (l ∷ ls) None None r a b f g h = absurd (b.0 v g)
  ended s u t v [] (l ∷ ls) None (Some y) r a b f g h = h
  ended s u t v [] ls (Some x) p r a b f g h = absurd (a x u f)
  ended s u t v (k ∷ ks) ls None p r a b f g h = absurd (a.0 u f)
  ended s u t v (k ∷ ks) [] (Some x) p r a b f g h = h.0
  ended s u t v (k ∷ ks) (l ∷ ls) (Some x) None r a b f g h = absurd (b.0 v g)
  ended s u t v (k ∷ ks) (l ∷ ls) (Some x) (Some y) r a b f g h =
      let x-is : x ≡ k = (a.1 x u f).0 in
      let y-is : y ≡ l = (b.1 y v g).0 in
      let other : nat_eq x y ≡ false = h.1 in
      grind (arith, nat_tests)

  going : (s u : S) (t v : T) (ks ls xs ys : List ℕ) (o p : Option ℕ) (r : Bool) → AlwaysYields steps (λ x. x) s ks → AlwaysYields others (λ x. x) t ls → YieldsThen steps s xs o u → YieldsThen others t ys p v →
      AllZip (λ x y. nat_eq x y ≡ true) xs ys → MatchOption o (MatchOption p (r ≡ true) (λ _. r ≡ false)) (λ x. (r ≡ false) × IfSome p (λ y. nat_eq x y ≡ false)) → r ≡ same ks ls
  going s u t v ks ls [] [] o p r a b f g z h =
      ended f.0 u g.0 v ks ls o p r (subst (λ (w : S). AlwaysYields steps (λ x. x) w ks) f.1 a) (subst (λ (w : T). AlwaysYields others (λ x. x) w ls) g.1 b) f.2 g.2 h
  going s u t v ks ls [] (y ∷ ys) o p r a b f g z h = absurd z
  going s u t v ks ls (x ∷ xs) [] o p r a b f g z h = absurd z
  going s u t v [] ls (x ∷ xs) (y ∷ ys) o p r a b f g z h = absurd (a x f.1.0 f.1.1)
  going s u t v (k ∷ ks) [] (x ∷ xs) (y ∷ ys) o p r a b f g z h = absurd (b y g.1.0 g.1.1)
  going s u t v (k ∷ ks) (l ∷ ls) (x ∷ xs) (y ∷ ys) o p r a b f g z h =
      let first = a.1 x f.1.0 f.1.1 in
      let second = b.1 y g.1.0 g.1.1 in
      let rest = going f.1.0 u g.1.0 v ks ls xs ys o p r first.1 second.1 (f.0, f.1.2, f.2) (g.0, g.1.2, g.2) z.1 h in
      let x-is : x ≡ k = first.0 in
      let y-is : y ≡ l = second.0 in
      let equal : nat_eq x y ≡ true = z.0 in
      grind (arith, nat_tests)

pub compared : {S T : Type 0} {steps : S → Option ℕ → S → Type 0} {others : T → Option ℕ → T → Type 0} (s : S) (t : T) (ks ls : List ℕ) (r : Bool) → ComparesItemsByEq steps (λ u v. v ≡ u) others s t nat_eq r →
    YieldsList steps (λ x. x) s ks → YieldsList others (λ x. x) t ls → r ≡ same ks ls
compared {T = T} {steps = steps} {others = others} s t ks ls r (there, xs, ys, o, p, u, v, is, f, g, z, h) a b = going steps others s u there v ks ls xs ys o p r a.runs (subst (λ (w : T). YieldsList others (λ x. x) w ls) (sym is) b).runs f g z h

-- the kinds of a line's tokens, as many of them as there are
pub part_kinds : (ts ls : List Entry) (n sum s l : ℕ) → length ts < 2 ^ 64 → sum ≡ min (start ls n) (2 ^ 64 - 1) → s ≡ min sum (length ts) → l ≡ min (at ls n).length (length ts - s) → kinds_of (take l (take (length ts - s) (drop s ts))) ≡ kinds_in (kinds_of ts) ls n
part_kinds ts ls n sum s l small e es el =
    let same : take l (take (length ts - s) (drop s ts)) ≡ take (at ls n).length (drop (start ls n) ts) = grind (arith, common_steps) in
    ap kinds_of same ∙ sym (ap (take (at ls n).length) (drop-map (λ x. x.kind) (start ls n) ts) ∙ take-map (λ x. x.kind) (at ls n).length (drop (start ls n) ts))
