-- A number that is no byte is in the same sets of bytes as byte 0: no set names either.
use Rattle.std.proofs.Common.{◌≡◌, ℕ, ◌≤◌, Bool, true, false, not, ◌&&◌, eqb, ltb, ◌⊎◌, List, [], ◌∷◌, sym, refl, ap, ◌∙◌, inl, inr, arith}
use Rattle.std.proofs.lemmas.Bool.{and_parts, or_from, ne_eqb, ltb-true}
use Rattle.house.specs.Patterns.{Bytes, of, but, among, has, Item, one, many, Rule}
use Rattle.house.proofs.Derive.{kept, derive, spread, derive_rules}

-- each number of the list is a byte and not 0
abbrev pub named : List ℕ → Bool
named [] = true
named (c ∷ cs) = (ltb 0 c && ltb c 256) && named cs

abbrev pub named_by : Bytes → Bool
named_by (of cs) = named cs
named_by (but cs) = named cs

abbrev pub named_in : List Item → Bool
named_in [] = true
named_in (one s ∷ is) = named_by s && named_in is
named_in (many s ∷ is) = named_by s && named_in is

abbrev pub named_rules : List Rule → Bool
named_rules [] = true
named_rules (r ∷ rs) = named_in r.pattern && named_rules rs

out : (cs : List ℕ) (x : ℕ) → named cs ≡ true → (x ≡ 0) ⊎ (256 ≤ x) → among cs x ≡ false
out [] x e h = refl
out (c ∷ cs) x e h =
    let both = and_parts (ltb 0 c && ltb c 256) (named cs) e in
    let ends = and_parts (ltb 0 c) (ltb c 256) both.0 in
    let low = ltb-true 0 c ends.0 in
    let high = ltb-true c 256 ends.1 in
    or_from (eqb x c) (among cs x) (ne_eqb x c (λ same. omega arith)) (out cs x both.1 h)

has_far : (s : Bytes) (x : ℕ) → named_by s ≡ true → 256 ≤ x → has s x ≡ has s 0
has_far (of cs) x e h = out cs x e (inr h) ∙ sym (out cs 0 e (inl refl))
has_far (but cs) x e h = ap not (out cs x e (inr h) ∙ sym (out cs 0 e (inl refl)))

derive_far : (p : List Item) (x : ℕ) → named_in p ≡ true → 256 ≤ x → derive x p ≡ derive 0 p
derive_far [] x e h = refl
derive_far (one s ∷ is) x e h = ap (λ t. kept t is []) (has_far s x (and_parts (named_by s) (named_in is) e).0 h)
derive_far (many s ∷ is) x e h =
    let both = and_parts (named_by s) (named_in is) e in
    ap (λ t. kept t (many s ∷ is) (derive x is)) (has_far s x both.0 h) ∙ ap (kept (has s 0) (many s ∷ is)) (derive_far is x both.1 h)

pub rules_far : (rs : List Rule) (x : ℕ) → named_rules rs ≡ true → 256 ≤ x → derive_rules x rs ≡ derive_rules 0 rs
rules_far [] x e h = refl
rules_far (r ∷ rs) x e h =
    let both = and_parts (named_in r.pattern) (named_rules rs) e in
    ap (λ ps. spread r ps (derive_rules x rs)) (derive_far r.pattern x both.0 h) ∙ ap (spread r (derive 0 r.pattern)) (rules_far rs x both.1 h)
