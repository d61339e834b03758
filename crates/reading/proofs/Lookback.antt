-- Lookbacks: by a pointer that moves up the list, and what giving them leaves of the entries.
use Rattle.std.proofs.Common.{◌≡◌, ℕ, zero, suc, ◌+◌, ◌-◌, ◌<◌, ◌≤◌, Bool, ltb, ◌⊎◌, List, [], ◌∷◌, ◌++◌, length, take, drop, set, sym, refl, ap, ◌∙◌, subst, ap₂, subst₂, inl, inr, add-zero, zero-add, arith}
use Rattle.std.proofs.lemmas.List.{append-nil, append_assoc, length-append, length-take, length-take-le, length-drop, take_all, take_more, drop_all, drop_more, set_at, get_or_append_left, get_or-append_right, get_or-take, get_or-drop}
use Rattle.std.proofs.lemmas.Bool.{cases_lt, cases_eq, ltb-true, ltb-false, lt-ltb, le-ltb}
use Rattle.reading.specs.Reading.{Entry, start, none, at, reach, lookback, with_lookback, listed, kinds}
use Rattle.reading.specs.Laws.{mode_before, total_length, LooksBack}
use Rattle.reading.proofs.Greatest.{greatest_le, greatest_passes, greatest_above, greatest_is, greatest_same}
use Rattle.reading.proofs.Lists.{start_up}

abbrev test : List Entry → ℕ → ℕ → Bool
test es j b = ltb (start es j) (reach es (j - b))

-- a pointer at p has passed the entries before it: none of them reads j's start
abbrev pub Passed : List Entry → ℕ → ℕ → Type 0
Passed es p j = (i : ℕ) → i < p → reach es i ≤ start es j

pub passed_none : (es : List Entry) (j : ℕ) → Passed es 0 j
passed_none es j i h = absurd (omega arith)

-- it passes one entry more
pub passed_more : (es : List Entry) (p j : ℕ) → Passed es p j → reach es p ≤ start es j → Passed es (p + 1) j
passed_more es p j passed l i h = elim (cases_eq i p) [ inl e ↦ subst (λ n. reach es n ≤ start es j) (sym e) l | inr e ↦ passed i (omega arith) ]

-- what it has passed at one entry it has passed at every later one
pub passed_later : (es : List Entry) (p j k : ℕ) → j ≤ k → Passed es p j → Passed es p k
passed_later es p j k h passed i l = omega (arith, start_up es j k h, passed i l)

-- and where it stands at j, or at an entry that reads j's start, it gives the lookback
pub lookback_is : (es : List Entry) (p j : ℕ) → p ≤ j → Passed es p j → (p ≡ j) ⊎ (start es j < reach es p) → lookback es j ≡ j - p
lookback_is es p j h passed here =
    greatest_is
    (test es j)
    j
    (j - p)
    (omega arith)
    (elim here [ inl e ↦ inl (omega arith) | inr l ↦ inr (lt-ltb (start es j) (reach es (j - (j - p))) (subst (λ i. start es j < reach es i) (omega arith) l)) ])
    (λ i a b. le-ltb (start es j) (reach es (j - i)) (passed (j - i) (omega arith)))

-- no lookback goes past the first entry
pub lookback_le : (es : List Entry) (j : ℕ) → lookback es j ≤ j
lookback_le es j = greatest_le (test es j) j

-- giving the lookbacks leaves everything else of the entries
pub length_listed : (all es : List Entry) (j : ℕ) → length (listed all es j) ≡ length es
length_listed all [] j = refl
length_listed all (e ∷ es) j = ap suc (length_listed all es (suc j))

pub at_listed_from : (all es : List Entry) (j i : ℕ) → i < length es → at (listed all es j) i ≡ with_lookback (lookback all (j + i)) (at es i)
at_listed_from all [] j i h = absurd (omega arith)
at_listed_from all (e ∷ es) j zero h = ap (λ n. with_lookback (lookback all n) e) (sym (add-zero j))
at_listed_from all (e ∷ es) j (suc i) h = at_listed_from all es (suc j) i (omega arith) ∙ ap (λ n. with_lookback (lookback all n) (at es i)) (omega arith)

pub at_listed : (es : List Entry) (j : ℕ) → j < length es → at (listed es es 0) j ≡ with_lookback (lookback es j) (at es j)
at_listed es j h = at_listed_from es es 0 j h ∙ ap (λ n. with_lookback (lookback es n) (at es j)) (zero-add j)

pub kind_listed : (all es : List Entry) (j i : ℕ) → (at (listed all es j) i).kind ≡ (at es i).kind
kind_listed all [] j i = refl
kind_listed all (e ∷ es) j zero = refl
kind_listed all (e ∷ es) j (suc i) = kind_listed all es (suc j) i

pub extent_listed : (all es : List Entry) (j i : ℕ) → (at (listed all es j) i).length ≡ (at es i).length
extent_listed all [] j i = refl
extent_listed all (e ∷ es) j zero = refl
extent_listed all (e ∷ es) j (suc i) = extent_listed all es (suc j) i

pub reading_listed : (all es : List Entry) (j i : ℕ) → (at (listed all es j) i).reading ≡ (at es i).reading
reading_listed all [] j i = refl
reading_listed all (e ∷ es) j zero = refl
reading_listed all (e ∷ es) j (suc i) = reading_listed all es (suc j) i

pub mode_listed : (all es : List Entry) (j i : ℕ) → (at (listed all es j) i).mode ≡ (at es i).mode
mode_listed all [] j i = refl
mode_listed all (e ∷ es) j zero = refl
mode_listed all (e ∷ es) j (suc i) = mode_listed all es (suc j) i

pub start_listed : (all es : List Entry) (j i : ℕ) → start (listed all es j) i ≡ start es i
start_listed all [] j i = refl
start_listed all (e ∷ es) j zero = refl
start_listed all (e ∷ es) j (suc i) = ap (λ n. e.length + n) (start_listed all es (suc j) i)

pub reach_listed : (all es : List Entry) (j i : ℕ) → reach (listed all es j) i ≡ reach es i
reach_listed all es j i = ap₂ (λ a b. a + b) (start_listed all es j i) (reading_listed all es j i)

pub lookback_listed : (all es : List Entry) (j i : ℕ) → lookback (listed all es j) i ≡ lookback es i
lookback_listed all es j i =
    greatest_same (test (listed all es j) i) (test es i) i (λ b x y. ap₂ ltb (start_listed all es j i) (reach_listed all es j (i - b)))

pub mode_before_listed : (all es : List Entry) (j i : ℕ) → mode_before (listed all es j) i ≡ mode_before es i
mode_before_listed all es j zero = refl
mode_before_listed all es j (suc i) = mode_listed all es j i

pub total_listed : (all es : List Entry) (j : ℕ) → total_length (listed all es j) ≡ total_length es
total_listed all [] j = refl
total_listed all (e ∷ es) j = ap (λ n. e.length + n) (total_listed all es (suc j))

pub kinds_listed : (all es : List Entry) (j : ℕ) → kinds (listed all es j) ≡ kinds es
kinds_listed all [] j = refl
kinds_listed all (e ∷ []) j = refl
kinds_listed all (e ∷ f ∷ es) j = ap (λ ks. e.kind ∷ ks) (kinds_listed all (f ∷ es) (suc j))

-- the entry that a lookback leads to reads the start, and none earlier does
pub lookback_reaches : (es : List Entry) (j : ℕ) → 1 ≤ (at es j).reading → start es j < reach es (j - lookback es j)
lookback_reaches es j reads =
    elim (greatest_passes (test es j) j) [
      | inl z ↦ let here : j ≡ j - lookback es j = omega arith in subst (λ i. start es j < reach es i) here (omega arith)
      | inr y ↦ ltb-true (start es j) (reach es (j - lookback es j)) y
    ]

pub lookback_first : (es : List Entry) (i j : ℕ) → i + lookback es j < j → reach es i ≤ start es j
lookback_first es i j h =
    let past : reach es (j - (j - i)) ≤ start es j = ltb-false (start es j) (reach es (j - (j - i))) (greatest_above (test es j) j (j - i) (omega arith) (omega arith)) in
    subst (λ n. reach es n ≤ start es j) (omega arith) past

-- where every entry reads something, the lookbacks are as they should be
pub looks_back_listed : (es : List Entry) → ((j : ℕ) → j < length es → 1 ≤ (at es j).reading) → LooksBack (listed es es 0)
looks_back_listed es reads =
    record {
      within = λ j h. omega (arith, given j h, lookback_le es j);
      reaches = λ j h. subst₂ (λ a b. a < b) (sym (start_listed es es 0 j)) (sym (reach_listed es es 0 (j - (at (listed es es 0) j).lookback) ∙ ap (λ b. reach es (j - b)) (given j h))) (lookback_reaches es j (reads j (short j h)));
      none_earlier = λ i j h l. subst₂ (λ a b. a ≤ b) (sym (reach_listed es es 0 i)) (sym (start_listed es es 0 j)) (lookback_first es i j (omega (arith, given j h)));
    }
  where
    short : (j : ℕ) → j < length (listed es es 0) → j < length es
    short j h = omega (arith, length_listed es es 0)

    given : (j : ℕ) → j < length (listed es es 0) → (at (listed es es 0) j).lookback ≡ lookback es j
    given j h = ap (λ e. e.lookback) (at_listed es j (short j h))

-- what is added at the end of a list changes nothing of the entries before it, nor a lookback
pub at_front : (es fs : List Entry) (j : ℕ) → j < length es → at (es ++ fs) j ≡ at es j
at_front es fs j h = get_or_append_left es fs none j h

pub start_front : (es fs : List Entry) (j : ℕ) → j ≤ length es → start (es ++ fs) j ≡ start es j
start_front [] [] j h = refl
start_front [] (f ∷ fs) zero h = refl
start_front [] (f ∷ fs) (suc j) h = absurd (omega arith)
start_front (e ∷ es) fs zero h = refl
start_front (e ∷ es) fs (suc j) h = ap (λ n. e.length + n) (start_front es fs j (omega arith))

pub reach_front : (es fs : List Entry) (j : ℕ) → j < length es → reach (es ++ fs) j ≡ reach es j
reach_front es fs j h = ap₂ (λ a e. a + e.reading) (start_front es fs j (omega arith)) (at_front es fs j h)

pub lookback_front : (es fs : List Entry) (j : ℕ) → j ≤ length es → lookback (es ++ fs) j ≡ lookback es j
lookback_front es fs j h = greatest_same (test (es ++ fs) j) (test es j) j (λ b x y. ap₂ ltb (start_front es fs j h) (reach_front es fs (j - b) (omega arith)))

-- a pointer into a list that grows by an entry
pub passed_push : (es : List Entry) (e : Entry) (p : ℕ) → p ≤ length es → Passed es p (length es) → Passed (es ++ e ∷ []) p (length es + 1)
passed_push es e p l passed i h =
    let all = es ++ e ∷ [] in
    omega (arith, passed i h, reach_front es (e ∷ []) i (omega arith), start_front es (e ∷ []) (length es) (omega arith), start_up all (length es) (length es + 1) (omega arith))

listed_front : (es fs gs : List Entry) (j : ℕ) → j + length gs ≤ length es → listed (es ++ fs) gs j ≡ listed es gs j
listed_front es fs [] j h = refl
listed_front es fs (g ∷ gs) j h = ap₂ (λ b l. with_lookback b g ∷ l) (lookback_front es fs j (omega arith)) (listed_front es fs gs (suc j) (omega arith))

listed_append : (all es fs : List Entry) (j : ℕ) → listed all (es ++ fs) j ≡ listed all es j ++ listed all fs (j + length es)
listed_append all [] fs j = ap (listed all fs) (sym (add-zero j))
listed_append all (e ∷ es) fs j = ap (λ l. with_lookback (lookback all j) e ∷ l) (listed_append all es fs (suc j) ∙ ap (λ n. listed all es (suc j) ++ listed all fs n) (omega arith))

-- a list that grows by an entry at its end: the lookbacks that were given stay
pub listed_push : (es : List Entry) (e : Entry) → listed (es ++ e ∷ []) (es ++ e ∷ []) 0 ≡ listed es es 0 ++ with_lookback (lookback es (length es)) e ∷ []
listed_push es e =
    listed_append (es ++ e ∷ []) es (e ∷ []) 0 ∙
    ap₂
    (λ l b. l ++ with_lookback b e ∷ [])
    (listed_front es (e ∷ []) es 0 (omega arith))
    (ap (lookback (es ++ e ∷ [])) (zero-add (length es)) ∙ lookback_front es (e ∷ []) (length es) (omega arith))

-- a list of which the first j entries have been given their lookbacks
abbrev pub listed_to : ℕ → List Entry → List Entry
listed_to j es = take j (listed es es 0) ++ drop j es

pub listed_to_none : (es : List Entry) → listed_to 0 es ≡ es
listed_to_none es = refl

pub listed_to_all : (es : List Entry) → listed_to (length es) es ≡ listed es es 0
listed_to_all es = ap₂ (λ a b. a ++ b) (take_all (length es) (listed es es 0) (omega (arith, length_listed es es 0))) (drop_all (length es) es (omega arith)) ∙ append-nil (listed es es 0)

pub listed_to_more : (es : List Entry) (j : ℕ) → j < length es → listed_to (j + 1) es ≡ set (listed_to j es) j (with_lookback (lookback es j) (at es j))
listed_to_more es j h =
    let l = listed es es 0 in
    let e = with_lookback (lookback es j) (at es j) in
    let len : length l ≡ length es = length_listed es es 0 in
    let one : take (j + 1) l ≡ take j l ++ e ∷ [] = take_more l j none (omega arith) ∙ ap (λ x. take j l ++ x ∷ []) (at_listed es j h) in
    let left : drop j es ≡ at es j ∷ drop (j + 1) es = drop_more es j none h in
    ap (λ x. x ++ drop (j + 1) es) one ∙ append_assoc (take j l) (e ∷ []) (drop (j + 1) es) ∙
    sym (ap (λ x. set (take j l ++ x) j e) left ∙ set_at (take j l) (at es j) (drop (j + 1) es) e j (length-take-le j l (omega arith)))

pub length_listed_to : (j : ℕ) (es : List Entry) → length (listed_to j es) ≡ length es
length_listed_to j es = length-append (take j (listed es es 0)) (drop j es) ∙ omega (arith, length-take j (listed es es 0), length-drop j es, length_listed es es 0)

-- all but the lookbacks is as it was
pub at_listed_to : (es : List Entry) (j i : ℕ) → j ≤ i → j ≤ length es → at (listed_to j es) i ≡ at es i
at_listed_to es j i h l =
    get_or-append_right (take j (listed es es 0)) (drop j es) j i none (length-take-le j (listed es es 0) (omega (arith, length_listed es es 0))) h ∙ get_or-drop j es (i - j) none ∙ ap (at es) (omega arith)

pub at_listed_below : (es : List Entry) (j i : ℕ) → i < j → j ≤ length es → at (listed_to j es) i ≡ with_lookback (lookback es i) (at es i)
at_listed_below es j i h l =
    let len : length (take j (listed es es 0)) ≡ j = length-take-le j (listed es es 0) (omega (arith, length_listed es es 0)) in
    get_or_append_left (take j (listed es es 0)) (drop j es) none i (omega arith) ∙ get_or-take j (listed es es 0) i none h ∙ at_listed es i (omega arith)

pub reading_listed_to : (es : List Entry) (j i : ℕ) → j ≤ length es → (at (listed_to j es) i).reading ≡ (at es i).reading
reading_listed_to es j i l = elim (cases_lt i j) [ inl h ↦ ap (λ e. e.reading) (at_listed_below es j i h l) | inr h ↦ ap (λ e. e.reading) (at_listed_to es j i h l) ]

pub extent_listed_to : (es : List Entry) (j i : ℕ) → j ≤ length es → (at (listed_to j es) i).length ≡ (at es i).length
extent_listed_to es j i l = elim (cases_lt i j) [ inl h ↦ ap (λ e. e.length) (at_listed_below es j i h l) | inr h ↦ ap (λ e. e.length) (at_listed_to es j i h l) ]
