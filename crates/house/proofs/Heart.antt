-- A rule of a mode matches w exactly where the token book accepts w by it.
use Rattle.std.proofs.Common.{◌≡◌, ℕ, zero, suc, ◌<◌, true, cond, not, eqb, ◌⊎◌, ◌↔◌, List, [], ◌∷◌, ◌++◌, sym, refl, ap, ◌∙◌, subst, inl, inr, ⊎_elim, append-nil, arith}
use Rattle.std.proofs.lemmas.Bool.{false≢true, cases_Bool, cond-true, cond-false, eqb-true, eqb-false, ne_eqb, not-true, not_from_false}
use Rattle.books.specs.Tables.{step, accept, kind_of, next_mode, start_state}
use Rattle.reading.specs.Laws.{after, rule_of}
use Rattle.house.specs.Patterns.{GivenBy, rules_of}
use Rattle.house.specs.House.{house_tokens}
use Rattle.house.proofs.Derive.{left_after, left_none, given_left, enders, Ends, ends_here, ends_cases, given_ends, ends_given}
use Rattle.house.proofs.Stuck.{after_more}
use Rattle.house.proofs.States.{left_in, giving, follows_step, follows_accept, some_end, ending, ends_from, step_below}

step_test : (s x : ℕ) (w : List ℕ) → after house_tokens s (x ∷ w) ≡ cond (eqb (step house_tokens s x) 255) 255 (after house_tokens (step house_tokens s x) w)
unfolding house_tokens
step_test s x w = after_more house_tokens (omega arith) refl s x w

-- after w the rules left are those of the state that the book is in
pub follows : (s : ℕ) (w : List ℕ) → left_after (left_in s) w ≡ left_in (after house_tokens s w)
unfolding house_tokens
follows s [] = refl
follows s (x ∷ w) =
    let next = step house_tokens s x in
    let on : left_after (left_in s) (x ∷ w) ≡ left_after (left_in next) w = ap (λ rs. left_after rs w) (follows_step s x) in
    let at_test = step_test s x w in
    ⊎_elim
    (λ none. on ∙ ap (λ s. left_after (left_in s) w) (eqb-true next 255 none) ∙ left_none w ∙ ap left_in (sym (at_test ∙ cond-true (eqb next 255) 255 (after house_tokens next w) none)))
    (λ some. on ∙ follows next w ∙ ap left_in (sym (at_test ∙ cond-false (eqb next 255) 255 (after house_tokens next w) some)))
    (cases_Bool (eqb next 255))

-- rule r gives kind k and next mode v
abbrev pub Gives : ℕ → ℕ → ℕ → Type 0
Gives r k v = (r ≡ 255 → ⊥) × (kind_of house_tokens r ≡ k) × (next_mode house_tokens r ≡ v)

giving_gives : (r k v : ℕ) → Ends (giving r) k v ↔ Gives r k v
giving_gives r k v =
    let rule : ℕ × ℕ = (kind_of house_tokens r, next_mode house_tokens r) in (
      λ m. ⊎_elim (λ h. (eqb-false r 255 (not-true (eqb r 255) h.0), h.1, h.2)) absurd (ends_cases (not (eqb r 255)) rule [] k v m),
      λ g. ends_here (not (eqb r 255)) rule [] k v (not_from_false (eqb r 255) (ne_eqb r 255 g.0)) g.1 g.2,
    )

-- from any state on
pub state_rule : (s : ℕ) (w : List ℕ) (k v : ℕ) → GivenBy (left_in s) k v w ↔ Gives (accept house_tokens (after house_tokens s w)) k v
state_rule s w k v =
    let ends : enders (left_after (left_in s) w) ≡ giving (accept house_tokens (after house_tokens s w)) = ap enders (follows s w) ∙ follows_accept (after house_tokens s w) in
    let way = given_left (left_in s) k v w [] in
    let gives = giving_gives (accept house_tokens (after house_tokens s w)) k v in (
      λ g. gives.0 (subst (λ es. Ends es k v) ends (given_ends (left_after (left_in s) w) k v (way.0 (subst (GivenBy (left_in s) k v) (sym (append-nil w)) g)))),
      λ g. subst (GivenBy (left_in s) k v) (append-nil w) (way.1 (ends_given (left_after (left_in s) w) k v (subst (λ es. Ends es k v) (sym ends) (gives.1 g)))),
    )

rule_of_is : (m : ℕ) (w : List ℕ) → rule_of house_tokens m w ≡ accept house_tokens (after house_tokens (start_state house_tokens m) w)
unfolding house_tokens
rule_of_is m w =
    let s = after house_tokens (start_state house_tokens m) w in
    ⊎_elim
    (λ e. cond-true (eqb s 255) 255 (accept house_tokens s) e ∙ sym (ap (accept house_tokens) (eqb-true s 255 e)))
    (λ e. cond-false (eqb s 255) 255 (accept house_tokens s) e)
    (cases_Bool (eqb s 255))

pub starts_with : (m : ℕ) → m < 2 → left_in (start_state house_tokens m) ≡ rules_of m
unfolding house_tokens
starts_with zero h = refl
starts_with (suc zero) h = refl
starts_with (suc (suc m)) h = absurd (omega arith)

pub mode_rule : (m : ℕ) (w : List ℕ) (k v : ℕ) → m < 2 → GivenBy (rules_of m) k v w ↔ Gives (rule_of house_tokens m w) k v
mode_rule m w k v h =
    let way = state_rule (start_state house_tokens m) w k v in (
      λ g. subst (λ r. Gives r k v) (sym (rule_of_is m w)) (way.0 (subst (λ rs. GivenBy rs k v w) (sym (starts_with m h)) g)),
      λ g. subst (λ rs. GivenBy rs k v w) (starts_with m h) (way.1 (subst (λ r. Gives r k v) (rule_of_is m w) g)),
    )

-- ---- the book goes on exactly where a match can follow

some_ends : (es : List (ℕ × ℕ)) → some_end es ≡ true → (k : ℕ) × (v : ℕ) × Ends es k v
some_ends [] e = absurd (false≢true e)
some_ends (p ∷ ps) e = (p.0, p.1, inl (refl, refl))

-- in a state of the book some bytes end a match
pub goes_on : (s : ℕ) → s < 22 → (k : ℕ) × (v : ℕ) × GivenBy (left_in s) k v (ending s)
goes_on s h =
    let end = some_ends (enders (left_after (left_in s) (ending s))) (ends_from s h) in
    let back = given_left (left_in s) end.0 end.1 (ending s) [] in
    (end.0, end.1, subst (GivenBy (left_in s) end.0 end.1) (append-nil (ending s)) (back.1 (ends_given (left_after (left_in s) (ending s)) end.0 end.1 end.2)))

-- after any bytes the book is in one of its states, or in none
within : (s : ℕ) (w : List ℕ) → s < 22 → (after house_tokens s w ≡ 255) ⊎ (after house_tokens s w < 22)
unfolding house_tokens
within s [] h = inr h
within s (x ∷ w) h =
    let next = step house_tokens s x in
    let at_test = step_test s x w in
    ⊎_elim
    (λ none. inl (at_test ∙ cond-true (eqb next 255) 255 (after house_tokens next w) none))
    (λ some. subst (λ s. (s ≡ 255) ⊎ (s < 22)) (sym (at_test ∙ cond-false (eqb next 255) 255 (after house_tokens next w) some)) (within next w (step_below s x some)))
    (cases_Bool (eqb next 255))

-- w begins a match of what is left in state s
abbrev pub Begins : ℕ → List ℕ → Type 0
Begins s w = (u : List ℕ) × (k : ℕ) × (v : ℕ) × GivenBy (left_in s) k v (w ++ u)

pub begins : (s : ℕ) (w : List ℕ) → s < 22 → (after house_tokens s w ≡ 255 → ⊥) → Begins s w
begins s w h open-still =
    let state = after house_tokens s w in
    let end = goes_on state (⊎_elim (λ e. absurd (open-still e)) (λ b. b) (within s w h)) in (
      ending state,
      end.0,
      end.1,
      (given_left (left_in s) end.0 end.1 w (ending state)).1
          (subst (λ rs. GivenBy rs end.0 end.1 (ending state)) (sym (follows s w)) end.2),
    )

pub not_begins : (s : ℕ) (w : List ℕ) → Begins s w → after house_tokens s w ≡ 255 → ⊥
not_begins s w b e =
    let k = b.1 in
    let v = b.2 in
    subst (λ rs. GivenBy rs k v b.0) (follows s w ∙ ap left_in e) ((given_left (left_in s) k v w b.0).0 b.3)
