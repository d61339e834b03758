-- The rules that are left in each state of the token book, and that its tables follow them.
use Rattle.std.proofs.Common.{◌≡◌, ℕ, ◌+◌, ◌*◌, ◌<◌, Bool, true, false, not, eqb, ltb, List, [], ◌∷◌, get_or, drop, codes, sym, refl, ap, ◌∙◌, ⊎_elim, arith}
use Rattle.books.specs.Tables.{class, step, accept, kind_of, next_mode}
use Rattle.books.specs.Sound.{below_or_none}
use Rattle.house.specs.Patterns.{Item, many, Rule, rule, blank, word_byte, stamp, chorus, starred_chorus, comment, rules_of}
use Rattle.house.specs.House.{house_tokens}
use Rattle.std.proofs.lemmas.Bool.{cases_lt, both_ways, ltb-true, eqb-false, or_cases}
use Rattle.std.proofs.lemmas.List.{get_or_past}
use Rattle.house.proofs.Derive.{derive_rules, enders, kept, left_after}
use Rattle.house.proofs.Far.{named_rules, rules_far}
use Rattle.house.proofs.Table.{tabled, at, at_both}

-- one rule alone, of which p is left
abbrev alone : ℕ → List Item → ℕ → List Rule
alone k p v = rule k p v ∷ []

-- for each state in its turn the rules that still can match, each with what is left of its pattern
abbrev pub lefts : List (List Rule)
lefts =
    rules_of 0
    ∷ alone 2 (many blank ∷ []) 0
    ∷ alone 3 (many word_byte ∷ []) 0
    ∷ alone 5 [] 0
    ∷ alone 6 [] 1
    ∷ alone 4 (drop 1 stamp) 0
    ∷ alone 4 (drop 2 stamp) 0
    ∷ alone 4 (drop 3 stamp) 0
    ∷ alone 4 (drop 4 stamp) 0
    ∷ alone 4 (drop 5 stamp) 0
    ∷ alone 4 (drop 6 stamp) 0
    ∷ alone 4 (drop 7 stamp) 0
    ∷ alone 4 (drop 8 stamp) 0
    ∷ alone 4 (drop 9 stamp) 0
    ∷ alone 4 [] 0
    ∷ (rule 7 (drop 1 chorus) 0 ∷ alone 8 (drop 1 starred_chorus) 0)
    ∷ (rule 7 [] 0 ∷ alone 8 (drop 3 starred_chorus) 0)
    ∷ alone 8 (drop 3 starred_chorus) 0
    ∷ alone 8 [] 0
    ∷ rules_of 1
    ∷ alone 9 (drop 1 comment) 1
    ∷ alone 10 [] 0
    ∷ []

-- the rules left in state s; none in a state that the book has not, as 255
abbrev pub left_in : ℕ → List Rule
left_in s = get_or lefts s []

-- computed at every state and byte
steps_follow : tabled 22 (λ s. tabled 256 (λ x. derive_rules x (left_in s))) ≡ tabled 22 (λ s. tabled 256 (λ x. left_in (step house_tokens s x)))
unfolding house_tokens
steps_follow = refl

-- the sets of bytes in them name bytes but 0
left_named : tabled 22 (λ s. named_rules (left_in s)) ≡ tabled 22 (λ s. true)
left_named = refl

-- what rule r gives, if it is one
abbrev pub giving : ℕ → List (ℕ × ℕ)
giving r = kept (not (eqb r 255)) (kind_of house_tokens r, next_mode house_tokens r) []

accepts_follow : tabled 22 (λ s. enders (left_in s)) ≡ tabled 22 (λ s. giving (accept house_tokens s))
unfolding house_tokens
accepts_follow = refl

-- bytes that end a match from each state on
abbrev endings : List (List ℕ)
endings =
    codes "a" ∷ [] ∷ [] ∷ [] ∷ []
    ∷ codes "01:02.50]" ∷ codes "1:02.50]" ∷ codes ":02.50]" ∷ codes "02.50]" ∷ codes "2.50]" ∷ codes ".50]" ∷ codes "50]" ∷ codes "0]" ∷ codes "]" ∷ []
    ∷ codes ">" ∷ [] ∷ codes "*" ∷ []
    ∷ codes "}" ∷ [] ∷ []
    ∷ []

abbrev pub ending : ℕ → List ℕ
ending s = get_or endings s []

-- a rule that a list of enders begins with
abbrev pub some_end : List (ℕ × ℕ) → Bool
some_end [] = false
some_end (p ∷ ps) = true

endings_end : tabled 22 (λ s. some_end (enders (left_after (left_in s) (ending s)))) ≡ tabled 22 (λ s. true)
endings_end = refl

-- the step table gives the derivative, for every state and number
pub follows_step : (s x : ℕ) → derive_rules x (left_in s) ≡ left_in (step house_tokens s x)
unfolding house_tokens
follows_step s x =
    ⊎_elim
    (λ hs.
    ⊎_elim
    (λ hx. at_both 22 256 (λ s x. derive_rules x (left_in s)) (λ s x. left_in (step house_tokens s x)) steps_follow s x hs hx)
    (λ hx.
    rules_far (left_in s) x (at 22 (λ s. named_rules (left_in s)) (λ s. true) left_named s hs) hx
    ∙ at_both 22 256 (λ s x. derive_rules x (left_in s)) (λ s x. left_in (step house_tokens s x)) steps_follow s 0 hs (omega arith)
    ∙ ap (λ k. left_in (get_or house_tokens.steps (s * 13 + k) 255)) (sym (get_or_past house_tokens.classes x 0 hx)))
    (cases_lt x 256))
    (λ hs.
    ap (derive_rules x) (get_or_past lefts s [] hs)
    ∙ ap left_in (sym (get_or_past house_tokens.steps (s * 13 + class house_tokens x) 255 (omega arith))))
    (cases_lt s 22)

-- and the accept table says what may end, for every state
pub follows_accept : (s : ℕ) → enders (left_in s) ≡ giving (accept house_tokens s)
unfolding house_tokens
follows_accept s =
    ⊎_elim
    (λ hs. at 22 (λ s. enders (left_in s)) (λ s. giving (accept house_tokens s)) accepts_follow s hs)
    (λ hs. ap enders (get_or_past lefts s [] hs) ∙ ap giving (sym (get_or_past house_tokens.accepts s 255 hs)))
    (cases_lt s 22)

-- from every state on some bytes end a match
pub ends_from : (s : ℕ) → s < 22 → some_end (enders (left_after (left_in s) (ending s))) ≡ true
ends_from s hs = at 22 (λ s. some_end (enders (left_after (left_in s) (ending s)))) (λ s. true) endings_end s hs

-- an entry of the step table is one of the 22 states, or none
steps_below : tabled 286 (λ i. below_or_none 22 (get_or house_tokens.steps i 255)) ≡ tabled 286 (λ i. true)
unfolding house_tokens
steps_below = refl

pub step_below : (s x : ℕ) → eqb (step house_tokens s x) 255 ≡ false → step house_tokens s x < 22
unfolding house_tokens
step_below s x some =
    let i = s * 13 + class house_tokens x in
    let next = get_or house_tokens.steps i 255 in
    ⊎_elim
    (λ h.
    ⊎_elim
    (λ less. ltb-true next 22 less)
    (λ none. absurd (both_ways (eqb next 255) some none))
    (or_cases (ltb next 22) (eqb next 255) (at 286 (λ i. below_or_none 22 (get_or house_tokens.steps i 255)) (λ i. true) steps_below i h)))
    (λ h. absurd (eqb-false next 255 some (get_or_past house_tokens.steps i 255 h)))
    (cases_lt i 286)
