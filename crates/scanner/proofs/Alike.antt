-- Setting the lookbacks of a list one by one.
use Rattle.std.proofs.Common.{◌≡◌, ℕ, suc, ◌+◌, ◌-◌, ◌^◌, ◌<◌, ◌≤◌, min, List, [], ◌∷◌, ◌++◌, length, take, drop, set, sym, refl, ap, ◌∙◌, subst, ap₂, add-one, arith}
use Rattle.std.proofs.lemmas.List.{append_assoc, take_more_set, drop-set-lt, drop_more, map-set, set-get_or, take_all, drop_all, append-nil}
use Rattle.reading.specs.Reading.{Entry, start, at, none, lookback, with_lookback, listed}
use Rattle.reading.proofs.Lookback.{lookback_le, lookback_first}
use Rattle.reading.proofs.Lists.{start_up, start_more}
use Rattle.reading.proofs.Only.{bare, at_bare}
use Rattle.reading.proofs.Alike.{Alike, alike_start, alike_reach, alike_lookback}
use Rattle.scanner.specs.Spots.{Passed, Fit}
use Rattle.scanner.proofs.Starts.{sum_start}

-- what a new lookback leaves alike
pub set_alike : (es : List Entry) (j b : ℕ) → Alike (set es j (with_lookback b (at es j))) es
set_alike es j b =
    map-set (with_lookback 0) es j (with_lookback b (at es j)) ∙ ap (set (bare es) j) (sym (at_bare es j)) ∙ set-get_or (bare es) j none

-- the entries before the earliest one that reads an entry's start do not read the next entry's start
pub passed_on : (es : List Entry) (j : ℕ) → Passed es (j - lookback es j) (j + 1)
passed_on es j i h = omega (arith, start_up es j (j + 1) (omega arith), lookback_first es i j (omega arith))

-- what the list comes to when the lookbacks from entry j on are set by those of `all`
abbrev pub set_from : List Entry → List Entry → ℕ → List Entry
set_from all es j = take j es ++ listed all (drop j es) j

pub set_from_more : (all es : List Entry) (j b : ℕ) → j < length es → b ≡ lookback all j → set_from all (set es j (with_lookback b (at es j))) (j + 1) ≡ set_from all es j
set_from_more all es j b h e =
    let new = with_lookback b (at es j) in
    let front : take (j + 1) (set es j new) ≡ take j es ++ new ∷ [] = take_more_set es j new h in
    let back : listed all (drop (j + 1) (set es j new)) (j + 1) ≡ listed all (drop (j + 1) es) (suc j) =
    ap (λ xs. listed all xs (j + 1)) (drop-set-lt (j + 1) es j new (omega arith)) ∙ ap (listed all (drop (j + 1) es)) (add-one j) in
    ap₂ ◌++◌ front back
    ∙ append_assoc (take j es) (new ∷ []) (listed all (drop (j + 1) es) (suc j))
    ∙ ap (λ x. take j es ++ (with_lookback x (at es j) ∷ listed all (drop (j + 1) es) (suc j))) e
    ∙ ap (λ xs. take j es ++ listed all xs j) (sym (drop_more es j none h))

pub set_from_all : (all es : List Entry) (j : ℕ) → length es ≤ j → set_from all es j ≡ es
set_from_all all es j h = ap₂ (λ xs ys. xs ++ listed all ys j) (take_all j es h) (drop_all j es h) ∙ append-nil es

-- Setting lookbacks, in progress: `now` is what the list `es` has come to, `number` is the next entry, which begins at `place`,
-- and `reader` is an entry that begins at `begins`
pub record Going (es now : List Entry) (from number place reader begins : ℕ) : Type 0 where
  pub alike : Alike now es
  pub starts : place ≡ start es number
  pub behind : reader ≤ number
  pub stands : begins ≡ start es reader
  pub passed : Passed es reader number
  pub comes : set_from es now number ≡ set_from es es from

pub going_none : (es : List Entry) (number place reader begins : ℕ) → place ≡ start es number → reader ≤ number → begins ≡ start es reader → Passed es reader number →
    Going es es number number place reader begins
going_none es number place reader begins a b c d = record { alike = refl; starts = a; behind = b; stands = c; passed = d; comes = refl }

-- the same facts at `now`
pub record Ready (now : List Entry) (number place reader begins : ℕ) : Type 0 where
  pub fit : Fit now
  pub starts : place ≡ start now number
  pub stands : begins ≡ start now reader
  pub passed : Passed now reader number

pub going_ready : (es now : List Entry) (from number place reader begins : ℕ) → Going es now from number place reader begins → Fit es → Ready now number place reader begins
going_ready es now from number place reader begins h fit = record {
  fit = λ i. omega (arith, fit i, alike_reach now es h.alike i);
  starts = h.starts ∙ sym (alike_start now es h.alike number);
  stands = h.stands ∙ sym (alike_start now es h.alike reader);
  passed = λ i l. omega (arith, h.passed i l, alike_reach now es h.alike i, alike_start now es h.alike number);
}

pub going_more : (es now : List Entry) (from number place reader begins : ℕ) → Going es now from number place reader begins → number < length now →
    (next further : ℕ) → next ≡ number - lookback now number → further ≡ start now next →
    Going es (set now number (with_lookback (number - next) (at now number))) from (number + 1) (place + (at now number).length) next further
going_more es now from number place reader begins h l next further e f =
    let same : lookback now number ≡ lookback es number = alike_lookback now es h.alike number in
    let back : number - next ≡ lookback es number = omega (arith, lookback_le es number) in
    record {
      alike = set_alike now number (number - next) ∙ h.alike;
      starts = ap (λ n. n + (at now number).length) (h.starts ∙ sym (alike_start now es h.alike number)) ∙ sym (start_more now number) ∙ alike_start now es h.alike (number + 1);
      behind = omega arith;
      stands = f ∙ alike_start now es h.alike next;
      passed = subst (λ (n : ℕ). Passed es n (number + 1)) (sym (e ∙ ap (λ n. number - n) same)) (passed_on es number);
      comes = set_from_more es now number (number - next) l back ∙ h.comes;
    }

-- past the last entry the list is done
pub going_all : (es now : List Entry) (from number place reader begins first : ℕ) → Going es now from number place reader begins → length now ≤ number → from ≡ first → now ≡ set_from es es first
going_all es now from number place reader begins first h end e = sym (set_from_all es now number end) ∙ h.comes ∙ ap (set_from es es) e

-- one turn: x is what was read of the entry, and `back` and `long` are other names of its new lookback and of the next entry's place
pub going_written : (es now : List Entry) (from number place reader begins : ℕ) → Going es now from number place reader begins → Fit es → number < length now →
    (next further : ℕ) → (Ready now number place reader begins → next ≡ number - lookback now number) → (Ready now number place reader begins → further ≡ start now next) →
    (x : Entry) → at now number ≡ x → (back onward : ℕ) → back ≡ number - next → onward ≡ min (place + x.length) (2 ^ 64 - 1) →
    Going es (set now number (with_lookback back x)) from (number + 1) onward next further
going_written es now from number place reader begins h fit lt next further n f x is back onward b o =
    let ready = going_ready es now from number place reader begins h fit in
    let there : set now number (with_lookback back x) ≡ set now number (with_lookback (number - next) (at now number)) = ap₂ (λ m e. set now number (with_lookback m e)) b (sym is) in
    let grown : onward ≡ place + (at now number).length = sum_start now ready.fit number place ready.starts x.length onward (ap (λ e. e.length) is) o ∙ start_more now number ∙ ap (λ m. m + (at now number).length) (sym ready.starts) in
    subst (λ (xs : List Entry). Going es xs from (number + 1) onward next further) (sym there)
    (subst (λ (m : ℕ). Going es (set now number (with_lookback (number - next) (at now number))) from (number + 1) m next further) (sym grown)
    (going_more es now from number place reader begins h lt next further (n ready) (f ready)))
