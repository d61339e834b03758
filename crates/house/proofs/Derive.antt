-- What is left of a pattern after one byte, and of a list of rules: the derivative. It holds for every pattern.
use Rattle.std.proofs.Common.{◌≡◌, ℕ, zero, suc, Bool, true, false, ◌⊎◌, ◌↔◌, List, [], ◌∷◌, ◌++◌, refl, inl, inr, ⊎_elim}
use Rattle.std.proofs.lemmas.Bool.{false≢true}
use Rattle.house.specs.Patterns.{has, Item, one, many, Matches, Rule, rule, GivenBy}

-- i in front of the others where the test passes
abbrev pub kept : {A : Type 0} → Bool → A → List A → List A
kept true i is = i ∷ is
kept false i is = is

-- the patterns one of which the rest has to match once b is read
abbrev pub derive : ℕ → List Item → List (List Item)
derive b [] = []
derive b (one s ∷ is) = kept (has s b) is []
derive b (many s ∷ is) = kept (has s b) (many s ∷ is) (derive b is)

abbrev pub SomeMatch : List (List Item) → List ℕ → Type 0
SomeMatch [] w = ⊥
SomeMatch (p ∷ ps) w = Matches p w ⊎ SomeMatch ps w

kept_here : (t : Bool) (p : List Item) (ps : List (List Item)) (w : List ℕ) → t ≡ true → Matches p w → SomeMatch (kept t p ps) w
kept_here true p ps w e m = inl m
kept_here false p ps w e m = absurd (false≢true e)

kept_there : (t : Bool) (p : List Item) (ps : List (List Item)) (w : List ℕ) → SomeMatch ps w → SomeMatch (kept t p ps) w
kept_there true p ps w m = inr m
kept_there false p ps w m = m

kept_cases : (t : Bool) (p : List Item) (ps : List (List Item)) (w : List ℕ) → SomeMatch (kept t p ps) w → ((t ≡ true) × Matches p w) ⊎ SomeMatch ps w
kept_cases true p ps w (inl m) = inl (refl, m)
kept_cases true p ps w (inr m) = inr m
kept_cases false p ps w m = inr m

-- the rest matches what is left
pub derived : (b : ℕ) (p : List Item) (w : List ℕ) → Matches p (b ∷ w) → SomeMatch (derive b p) w
derived b [] w m = m
derived b (one s ∷ is) w m = kept_here (has s b) is [] w m.0 m.1
derived b (many s ∷ is) w (zero, h, m) = kept_there (has s b) (many s ∷ is) (derive b is) w (derived b is w m)
derived b (many s ∷ is) w (suc n, h, m) = kept_here (has s b) (many s ∷ is) (derive b is) w h.0 (n, h.1, m)

-- and what matches what is left is the rest of a match
pub derived_back : (b : ℕ) (p : List Item) (w : List ℕ) → SomeMatch (derive b p) w → Matches p (b ∷ w)
derived_back b [] w m = m
derived_back b (one s ∷ is) w m = ⊎_elim (λ h. h) absurd (kept_cases (has s b) is [] w m)
derived_back b (many s ∷ is) w m =
    ⊎_elim
    (λ h. (suc h.1.0, (h.0, h.1.1), h.1.2))
    (λ h. (0, tt, derived_back b is w h))
    (kept_cases (has s b) (many s ∷ is) (derive b is) w m)

-- rule r once for each pattern left of its own, in front of the rules rs
abbrev pub spread : Rule → List (List Item) → List Rule → List Rule
spread r [] rs = rs
spread r (p ∷ ps) rs = rule r.kind p r.next ∷ spread r ps rs

-- the rules that are left once b is read
abbrev pub derive_rules : ℕ → List Rule → List Rule
derive_rules b [] = []
derive_rules b (r ∷ rs) = spread r (derive b r.pattern) (derive_rules b rs)

spread_here : (r : Rule) (ps : List (List Item)) (rs : List Rule) (k v : ℕ) (w : List ℕ) → r.kind ≡ k → r.next ≡ v → SomeMatch ps w → GivenBy (spread r ps rs) k v w
spread_here r [] rs k v w ek ev m = absurd m
spread_here r (p ∷ ps) rs k v w ek ev (inl m) = inl (ek, ev, m)
spread_here r (p ∷ ps) rs k v w ek ev (inr m) = inr (spread_here r ps rs k v w ek ev m)

spread_there : (r : Rule) (ps : List (List Item)) (rs : List Rule) (k v : ℕ) (w : List ℕ) → GivenBy rs k v w → GivenBy (spread r ps rs) k v w
spread_there r [] rs k v w g = g
spread_there r (p ∷ ps) rs k v w g = inr (spread_there r ps rs k v w g)

spread_cases : (r : Rule) (ps : List (List Item)) (rs : List Rule) (k v : ℕ) (w : List ℕ) → GivenBy (spread r ps rs) k v w → ((r.kind ≡ k) × (r.next ≡ v) × SomeMatch ps w) ⊎ GivenBy rs k v w
spread_cases r [] rs k v w g = inr g
spread_cases r (p ∷ ps) rs k v w (inl g) = inl (g.0, g.1, inl g.2)
spread_cases r (p ∷ ps) rs k v w (inr g) = ⊎_elim (λ h. inl (h.0, h.1, inr h.2)) (λ h. inr h) (spread_cases r ps rs k v w g)

pub rules_derived : (b : ℕ) (rs : List Rule) (k v : ℕ) (w : List ℕ) → GivenBy rs k v (b ∷ w) → GivenBy (derive_rules b rs) k v w
rules_derived b [] k v w g = g
rules_derived b (r ∷ rs) k v w (inl g) = spread_here r (derive b r.pattern) (derive_rules b rs) k v w g.0 g.1 (derived b r.pattern w g.2)
rules_derived b (r ∷ rs) k v w (inr g) = spread_there r (derive b r.pattern) (derive_rules b rs) k v w (rules_derived b rs k v w g)

pub rules_derived_back : (b : ℕ) (rs : List Rule) (k v : ℕ) (w : List ℕ) → GivenBy (derive_rules b rs) k v w → GivenBy rs k v (b ∷ w)
rules_derived_back b [] k v w g = g
rules_derived_back b (r ∷ rs) k v w g =
    ⊎_elim
    (λ h. inl (h.0, h.1, derived_back b r.pattern w h.2))
    (λ h. inr (rules_derived_back b rs k v w h))
    (spread_cases r (derive b r.pattern) (derive_rules b rs) k v w g)

-- the rules that are left once all of w is read
abbrev pub left_after : List Rule → List ℕ → List Rule
left_after rs [] = rs
left_after rs (b ∷ w) = left_after (derive_rules b rs) w

pub left_none : (w : List ℕ) → left_after [] w ≡ []
left_none [] = refl
left_none (b ∷ w) = left_none w

-- what w and u together match is what u matches of what w leaves
pub given_left : (rs : List Rule) (k v : ℕ) (w u : List ℕ) → GivenBy rs k v (w ++ u) ↔ GivenBy (left_after rs w) k v u
given_left rs k v [] u = (λ g. g, λ g. g)
given_left rs k v (b ∷ w) u =
    let ih = given_left (derive_rules b rs) k v w u in
    (λ g. ih.0 (rules_derived b rs k v (w ++ u) g), λ g. rules_derived_back b rs k v (w ++ u) (ih.1 g))

-- a pattern that matches no byte at all
abbrev pub nullable : List Item → Bool
nullable [] = true
nullable (one s ∷ is) = false
nullable (many s ∷ is) = nullable is

nullable_from : (p : List Item) → Matches p [] → nullable p ≡ true
nullable_from [] m = refl
nullable_from (one s ∷ is) m = absurd m
nullable_from (many s ∷ is) (zero, h, m) = nullable_from is m
nullable_from (many s ∷ is) (suc n, h, m) = nullable_from is m

from_nullable : (p : List Item) → nullable p ≡ true → Matches p []
from_nullable [] e = tt
from_nullable (one s ∷ is) e = absurd (false≢true e)
from_nullable (many s ∷ is) e = (0, tt, from_nullable is e)

-- kind and next mode of each rule that may end here
abbrev pub enders : List Rule → List (ℕ × ℕ)
enders [] = []
enders (r ∷ rs) = kept (nullable r.pattern) (r.kind, r.next) (enders rs)

abbrev pub Ends : List (ℕ × ℕ) → ℕ → ℕ → Type 0
Ends [] k v = ⊥
Ends (p ∷ ps) k v = ((p.0 ≡ k) × (p.1 ≡ v)) ⊎ Ends ps k v

pub ends_here : (t : Bool) (p : ℕ × ℕ) (ps : List (ℕ × ℕ)) (k v : ℕ) → t ≡ true → p.0 ≡ k → p.1 ≡ v → Ends (kept t p ps) k v
ends_here true p ps k v e ek ev = inl (ek, ev)
ends_here false p ps k v e ek ev = absurd (false≢true e)

ends_there : (t : Bool) (p : ℕ × ℕ) (ps : List (ℕ × ℕ)) (k v : ℕ) → Ends ps k v → Ends (kept t p ps) k v
ends_there true p ps k v m = inr m
ends_there false p ps k v m = m

pub ends_cases : (t : Bool) (p : ℕ × ℕ) (ps : List (ℕ × ℕ)) (k v : ℕ) → Ends (kept t p ps) k v → ((t ≡ true) × (p.0 ≡ k) × (p.1 ≡ v)) ⊎ Ends ps k v
ends_cases true p ps k v (inl m) = inl (refl, m.0, m.1)
ends_cases true p ps k v (inr m) = inr m
ends_cases false p ps k v m = inr m

pub given_ends : (rs : List Rule) (k v : ℕ) → GivenBy rs k v [] → Ends (enders rs) k v
given_ends [] k v g = g
given_ends (r ∷ rs) k v (inl g) = ends_here (nullable r.pattern) (r.kind, r.next) (enders rs) k v (nullable_from r.pattern g.2) g.0 g.1
given_ends (r ∷ rs) k v (inr g) = ends_there (nullable r.pattern) (r.kind, r.next) (enders rs) k v (given_ends rs k v g)

pub ends_given : (rs : List Rule) (k v : ℕ) → Ends (enders rs) k v → GivenBy rs k v []
ends_given [] k v g = g
ends_given (r ∷ rs) k v g =
    ⊎_elim
    (λ h. inl (h.1, h.2, from_nullable r.pattern h.0))
    (λ h. inr (ends_given rs k v h))
    (ends_cases (nullable r.pattern) (r.kind, r.next) (enders rs) k v g)
