-- What a correction's loop keeps while it gives the lookbacks, in one record, and its steps.
use Rattle.std.proofs.Common.{◌≡◌, ℕ, ◌+◌, ◌-◌, ◌<◌, ◌≤◌, ◌⊎◌, List, length, set, sym, ap, ◌∙◌, subst, arith}
use Rattle.reading.specs.Reading.{Entry, start, at, reach, lookback, with_lookback}
use Rattle.reading.proofs.Lookback.{Passed, passed_more, passed_later, lookback_is}
use Rattle.reading.proofs.Only.{bare}
use Rattle.reading.proofs.Alike.{Alike, alike_length, alike_lookback, given_to, given_alike, given_at, given_more}
use Rattle.reading.proofs.Correct.{passed_alike}

-- Of the list put, which is new but for the lookbacks, the first i entries have been given new's: it is now this;
-- and a pointer at p has passed such as do not read entry i's start
pub record Giving (new put now : List Entry) (i p : ℕ) : Type 0 where
  pub so_far : now ≡ given_to i new put
  pub to : p ≤ i
  pub passed : Passed now p i

-- new's entries have their own lookbacks
abbrev pub Own : List Entry → Type 0
Own new = (j : ℕ) → j < length new → (at new j).lookback ≡ lookback new j

module _ (new put : List Entry) (alike : Alike put new) where
  pub giving_begins : (i p : ℕ) → given_to i new put ≡ put → p ≤ i → Passed new p i → Giving new put put i p
  giving_begins i p e l passed = record { so_far = sym e; to = l; passed = passed_alike new put (sym alike) p i passed }

  module _ (now : List Entry) (i p : ℕ) (g : Giving new put now i p) where
    -- it is new but for the lookbacks still
    pub giving_alike : Alike now new
    giving_alike = ap bare g.so_far ∙ given_alike new put alike i

    pub giving_length : length now ≡ length new
    giving_length = alike_length now new giving_alike

    -- and from i on it is as it was put
    pub giving_at : (j : ℕ) → i ≤ j → i ≤ length new → at now j ≡ at put j
    giving_at j h l = ap (λ es. at es j) g.so_far ∙ given_at new put alike i j h l

    -- the pointer passes one entry more
    pub giving_pointer : p < i → reach now p ≤ start now i → Giving new put now i (p + 1)
    giving_pointer h l = record { so_far = g.so_far; to = omega arith; passed = passed_more now p i g.passed l }

    -- it stands at the entry that the lookback leads to
    module _ (here : (p ≡ i) ⊎ (start now i < reach now p)) where
      is : lookback now i ≡ i - p
      is = lookback_is now p i g.to g.passed here

      pub giving_lookback : Own new → i < length new → (at new i).lookback ≡ i - p
      giving_lookback own h = own i h ∙ sym (alike_lookback now new giving_alike i) ∙ is

      pub giving_more : Own new → i < length new → Giving new put (set now i (with_lookback (i - p) (at now i))) (i + 1) p
      giving_more own h =
          let next : set now i (with_lookback (i - p) (at now i)) ≡ given_to (i + 1) new put =
          ap (λ b. set now i (with_lookback b (at now i))) (sym is) ∙ ap (λ es. set es i (with_lookback (lookback es i) (at es i))) g.so_far ∙ sym (given_more new put alike own i h) in
          let on : Passed new p (i + 1) = passed_alike now new giving_alike p (i + 1) (passed_later now p i (i + 1) (omega arith) g.passed) in
          record {
            so_far = next;
            to = omega (arith, g.to);
            passed = subst (λ es. Passed es p (i + 1)) (sym next) (passed_alike new (given_to (i + 1) new put) (sym (given_alike new put alike (i + 1))) p (i + 1) on);
          }
