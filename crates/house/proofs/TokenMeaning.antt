-- The promises of the token book.
use Rattle.std.proofs.Common.{◌≡◌, ℕ, zero, suc, ◌<◌, ◌≤◌, Bool, true, ◌&&◌, eqb, leb, ◌⊎◌, List, [], ◌∷◌, ◌++◌, length, take, sym, refl, ◌∙◌, subst, inl, inr, ⊎_elim, arith}
use mathlib.Core.Path.{subst₃}
use Rattle.std.proofs.lemmas.Bool.{cases_Bool, cases_lt, cases_order, and_parts, leb-true, eqb-true, eqb-false}
use Rattle.std.proofs.lemmas.Bool.Decides.{when_true, when_false}
use Rattle.books.specs.Tables.{class, start_state}
use Rattle.reading.specs.Reading.{Entry, token}
use Rattle.reading.specs.Laws.{LongestMatch, rule_of}
use Rattle.reading.proofs.Longest.{longest_match}
use Rattle.house.specs.Patterns.{Rule, GivenBy, Matched, rules_of, class_rule}
use Rattle.house.specs.House.{house_tokens}
use Rattle.house.specs.Meaning.{ClassesRight, RulesApart, Longest, Unmatched, Is, ByRules, TokensByRules, StepsWhileMatching}
use Rattle.house.proofs.Table.{tabled, at}
use Rattle.house.proofs.Heart.{Gives, mode_rule, starts_with, begins, not_begins}

-- computed at every byte
classes_follow : tabled 256 (class house_tokens) ≡ tabled 256 class_rule
unfolding house_tokens
classes_follow = refl

pub classes_right : ClassesRight house_tokens
unfolding ClassesRight
classes_right b h = at 256 (class house_tokens) class_rule classes_follow b h

pub rules_apart : RulesApart
unfolding RulesApart
rules_apart m w k v j u h g f =
    let one = (mode_rule m w k v h).0 g in
    let two = (mode_rule m w j u h).0 f in
    (sym one.1 ∙ two.1, sym one.2 ∙ two.2)

-- what the book does not accept no rule of the mode matches
unmatched : (m : ℕ) (w : List ℕ) → m < 2 → rule_of house_tokens m w ≡ 255 → Matched m w → ⊥
unmatched m w h e g = ((mode_rule m w g.0 g.1 h).0 g.2).0 e

-- each kind that a rule gives is 2 or more
high : List Rule → Bool
high [] = true
high (r ∷ rs) = leb 2 r.kind && high rs

kind_high : (rs : List Rule) (k v : ℕ) (w : List ℕ) → high rs ≡ true → GivenBy rs k v w → 2 ≤ k
unfolding high
kind_high [] k v w e g = absurd g
kind_high (r ∷ rs) k v w e (inl g) = let h = leb-true 2 r.kind (and_parts (leb 2 r.kind) (high rs) e).0 in omega (arith, g.0)
kind_high (r ∷ rs) k v w e (inr g) = kind_high rs k v w (and_parts (leb 2 r.kind) (high rs) e).1 g

mode_high : (m : ℕ) → high (rules_of m) ≡ true
unfolding high
mode_high zero = refl
mode_high (suc zero) = refl
mode_high (suc (suc m)) = refl

-- what the longest match of the book is by the rules
module _ (m : ℕ) (xs : List ℕ) (e : Entry) (h : m < 2) (l : LongestMatch house_tokens m xs e) where
  -- the rule that e was read by, or 255
  r : ℕ
  r = rule_of house_tokens m (take e.length xs)

  abbrev FaultLike : Type 0
  FaultLike = (r ≡ 255) × Is e 0 1 m

  abbrev MatchLike : Type 0
  MatchLike = (r ≡ 255 → ⊥) × Longest m xs e.kind e.length e.mode

  none_longer : (j : ℕ) → e.length < j → j ≤ length xs → Matched m (take j xs) → ⊥
  none_longer j a b g = unmatched m (take j xs) h (l.no_longer j a b) g

  either : FaultLike ⊎ MatchLike
  unfolding r
  either =
      ⊎_elim
      (λ t. inl (eqb-true r 255 t, when_true _ _ t l.given))
      (λ t.
      let given = when_false _ _ t l.given in
      let some = eqb-false r 255 t in
      inr (
        some,
        record {
          some = l.some;
          within = l.within;
          matches = (mode_rule m (take e.length xs) e.kind e.mode h).1 (some, sym given.0, sym given.1);
          no_longer = none_longer;
        },
      ))
      (cases_Bool (eqb r 255))

  match_high : Longest m xs e.kind e.length e.mode → 2 ≤ e.kind
  match_high lo = kind_high (rules_of m) e.kind e.mode (take e.length xs) (mode_high m) lo.matches

  -- two longest matches are one
  only : (k n v : ℕ) → Longest m xs k n v → Is e k n v
  unfolding r
  only k n v lo =
      let accepts = (mode_rule m (take n xs) k v h).0 lo.matches in
      let not-shorter : e.length < n → ⊥ = λ a. accepts.0 (l.no_longer n a lo.within) in
      ⊎_elim
      (λ f. absurd (⊎_elim (λ same. accepts.0 (subst (λ n. rule_of house_tokens m (take n xs) ≡ 255) same f.0)) (λ o. ⊎_elim not-shorter (λ a. omega (arith, lo.some, f.1.1)) o) (cases_order e.length n)))
      (λ g.
      let not-longer : n < e.length → ⊥ = λ a. lo.no_longer e.length a l.within (e.kind, e.mode, g.1.matches) in
      let same : e.length ≡ n = ⊎_elim (λ s. s) (λ o. absurd (⊎_elim not-shorter not-longer o)) (cases_order e.length n) in
      let here = (mode_rule m (take e.length xs) e.kind e.mode h).0 g.1.matches in
      let there : Gives (rule_of house_tokens m (take e.length xs)) k v = subst (λ n. Gives (rule_of house_tokens m (take n xs)) k v) (sym same) accepts in
      (sym here.1 ∙ there.1, same, sym here.2 ∙ there.2))
      either

  fault_unmatched : r ≡ 255 → e.length ≡ 1 → Unmatched m xs
  unfolding r
  fault_unmatched none short n a b g =
      ⊎_elim
      (λ more. none_longer n more b g)
      (λ less. unmatched m (take n xs) h (subst (λ n. rule_of house_tokens m (take n xs) ≡ 255) (let same : e.length ≡ n = omega arith in same) none) g)
      (cases_lt e.length n)

  by_rules : ByRules m xs e
  unfolding r
  by_rules =
      record {
        matched = λ k n v some. (
          λ i. ⊎_elim
              (λ f. absurd (omega (arith, f.1.0, i.0)))
              (λ g. subst₃ (Longest m xs) i.0 i.1 i.2 g.1)
              either,
          only k n v,
        );
        fault = (
          λ z. ⊎_elim (λ f. fault_unmatched f.0 f.1.1) (λ g. absurd (omega (arith, match_high g.1))) either,
          λ u. ⊎_elim (λ f. f.1.0) (λ g. absurd (u e.length l.some l.within (e.kind, e.mode, g.1.matches))) either,
        );
        fault_is = λ z. ⊎_elim (λ f. f.1) (λ g. absurd (omega (arith, match_high g.1))) either;
      }

pub tokens_by_rules : TokensByRules house_tokens
unfolding TokensByRules
tokens_by_rules m xs h some = by_rules m xs (token house_tokens m xs) h (longest_match house_tokens m xs some)

pub steps_while_matching : StepsWhileMatching house_tokens
unfolding StepsWhileMatching house_tokens
steps_while_matching m w h =
    let s = start_state house_tokens m in
    let rules = starts_with m h in (
      λ open-still. let b = begins s w (start_below m h) open-still in (b.0, (b.1, b.2, subst (λ rs. GivenBy rs b.1 b.2 (w ++ b.0)) rules b.3)),
      λ b. not_begins s w (b.0, b.1.0, b.1.1, subst (λ rs. GivenBy rs b.1.0 b.1.1 (w ++ b.0)) (sym rules) b.1.2),
    )
  where
    start_below : (m : ℕ) → m < 2 → start_state house_tokens m < 22
    start_below zero h = omega arith
    start_below (suc zero) h = omega arith
    start_below (suc (suc m)) h = absurd (omega arith)
