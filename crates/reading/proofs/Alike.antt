-- Lists that are alike but for the lookbacks, and a list that is given its lookbacks one after another.
use Rattle.std.proofs.Common.{◌≡◌, ℕ, zero, suc, ◌+◌, ◌-◌, ◌<◌, ◌≤◌, List, [], ◌∷◌, ◌++◌, length, take, drop, set, sym, refl, ap, ◌∙◌, ap₂, arith}
use Rattle.std.proofs.lemmas.List.{append_assoc, ext_get_or, map-append, take-map, drop-map, length-map, length-take-le, length-drop, take_more, take-append-drop, drop_more, set_at, get_or-append_right, get_or-drop}
use Rattle.books.specs.Tables.{Tables}
use Rattle.reading.specs.Reading.{Entry, read, start, none, at, reach, lookback, with_lookback, listed, batch}
use Rattle.reading.specs.Laws.{mode_before}
use Rattle.reading.proofs.Only.{bare, at_bare, start_bare, lookback_bare}
use Rattle.reading.proofs.Covers.{entry_same}

-- alike but for the lookbacks
abbrev pub Alike : List Entry → List Entry → Type 0
Alike es fs = bare es ≡ bare fs

pub bare_listed : (all es : List Entry) (j : ℕ) → Alike (listed all es j) es
bare_listed all [] j = refl
bare_listed all (e ∷ es) j = ap (λ l. with_lookback 0 e ∷ l) (bare_listed all es (suc j))

pub bare_batch : (t : Tables) (xs : List ℕ) → Alike (batch t xs) (read t 0 0 xs)
unfolding batch
bare_batch t xs = bare_listed (read t 0 0 xs) (read t 0 0 xs) 0

pub alike_append : (es fs gs hs : List Entry) → Alike es gs → Alike fs hs → Alike (es ++ fs) (gs ++ hs)
alike_append es fs gs hs a c = map-append (with_lookback 0) es fs ∙ ap₂ (λ x y. x ++ y) a c ∙ sym (map-append (with_lookback 0) gs hs)

pub alike_take : (n : ℕ) (es fs : List Entry) → Alike es fs → Alike (take n es) (take n fs)
alike_take n es fs a = sym (take-map (with_lookback 0) n es) ∙ ap (take n) a ∙ take-map (with_lookback 0) n fs

pub alike_drop : (n : ℕ) (es fs : List Entry) → Alike es fs → Alike (drop n es) (drop n fs)
alike_drop n es fs a = sym (drop-map (with_lookback 0) n es) ∙ ap (drop n) a ∙ drop-map (with_lookback 0) n fs

module _ (es fs : List Entry) (a : Alike es fs) where
  pub alike_length : length es ≡ length fs
  alike_length = sym (length-map es (with_lookback 0)) ∙ ap length a ∙ length-map fs (with_lookback 0)

  pub alike_at : (j : ℕ) → with_lookback 0 (at es j) ≡ with_lookback 0 (at fs j)
  alike_at j = sym (at_bare es j) ∙ ap (λ l. at l j) a ∙ at_bare fs j

  pub alike_kind : (j : ℕ) → (at es j).kind ≡ (at fs j).kind
  alike_kind j = ap (λ e. e.kind) (alike_at j)

  pub alike_extent : (j : ℕ) → (at es j).length ≡ (at fs j).length
  alike_extent j = ap (λ e. e.length) (alike_at j)

  pub alike_reading : (j : ℕ) → (at es j).reading ≡ (at fs j).reading
  alike_reading j = ap (λ e. e.reading) (alike_at j)

  pub alike_mode : (j : ℕ) → (at es j).mode ≡ (at fs j).mode
  alike_mode j = ap (λ e. e.mode) (alike_at j)

  pub alike_mode_before : (j : ℕ) → mode_before es j ≡ mode_before fs j
  alike_mode_before zero = refl
  alike_mode_before (suc j) = alike_mode j

  pub alike_start : (j : ℕ) → start es j ≡ start fs j
  alike_start j = sym (start_bare es j) ∙ ap (λ l. start l j) a ∙ start_bare fs j

  pub alike_reach : (j : ℕ) → reach es j ≡ reach fs j
  alike_reach j = ap₂ (λ n m. n + m) (alike_start j) (alike_reading j)

  pub alike_lookback : (j : ℕ) → lookback es j ≡ lookback fs j
  alike_lookback j = sym (lookback_bare es j) ∙ ap (λ l. lookback l j) a ∙ lookback_bare fs j

  -- the same lookback at an entry makes it the same
  pub alike_same : (j : ℕ) → (at es j).lookback ≡ (at fs j).lookback → at es j ≡ at fs j
  alike_same j h = entry_same (at es j) (at fs j) (alike_at j) h

  -- the same lookbacks from an entry on make the lists the same from there on
  pub alike_from : (stop : ℕ) → ((j : ℕ) → stop ≤ j → j < length fs → (at es j).lookback ≡ (at fs j).lookback) → drop stop es ≡ drop stop fs
  alike_from stop h =
      ext_get_or
      none
      (drop stop es)
      (drop stop fs)
      (length-drop stop es ∙ ap (λ n. n - stop) alike_length ∙ sym (length-drop stop fs))
      (λ i l. get_or-drop stop es i none ∙ alike_same (stop + i) (h (stop + i) (omega arith) (omega (arith, length-drop stop es, alike_length))) ∙ sym (get_or-drop stop fs i none))

-- A list of which the first i entries have been given new's lookbacks, where it is alike but for them
abbrev pub given_to : ℕ → List Entry → List Entry → List Entry
given_to i new es = take i new ++ drop i es

pub given_begin : (f : ℕ) (new es : List Entry) → take f es ≡ take f new → given_to f new es ≡ es
given_begin f new es e = ap (λ l. l ++ drop f es) (sym e) ∙ take-append-drop f es

pub given_end : (i : ℕ) (new es : List Entry) → drop i es ≡ drop i new → given_to i new es ≡ new
given_end i new es e = ap (λ l. take i new ++ l) e ∙ take-append-drop i new

module _ (new es : List Entry) (a : Alike es new) where
  pub given_alike : (i : ℕ) → Alike (given_to i new es) new
  given_alike i = alike_append (take i new) (drop i es) (take i new) (drop i new) refl (alike_drop i es new a) ∙ ap bare (take-append-drop i new)

  pub given_at : (i j : ℕ) → i ≤ j → i ≤ length new → at (given_to i new es) j ≡ at es j
  given_at i j h l =
      get_or-append_right (take i new) (drop i es) i j none (length-take-le i new l) h ∙ get_or-drop i es (j - i) none ∙ ap (at es) (omega arith)

  set_next : (i : ℕ) → i < length new → given_to (i + 1) new es ≡ set (given_to i new es) i (at new i)
  set_next i h =
      let one : take (i + 1) new ≡ take i new ++ at new i ∷ [] = take_more new i none h in
      let left : drop i es ≡ at es i ∷ drop (i + 1) es = drop_more es i none (omega (arith, alike_length es new a)) in
      ap (λ x. x ++ drop (i + 1) es) one ∙ append_assoc (take i new) (at new i ∷ []) (drop (i + 1) es) ∙
      sym (ap (λ x. set (take i new ++ x) i (at new i)) left ∙ set_at (take i new) (at es i) (drop (i + 1) es) (at new i) i (length-take-le i new (omega arith)))

  -- the next is given its own
  pub given_more : ((j : ℕ) → j < length new → (at new j).lookback ≡ lookback new j) → (i : ℕ) → i < length new →
      given_to (i + 1) new es ≡ set (given_to i new es) i (with_lookback (lookback (given_to i new es) i) (at (given_to i new es) i))
  given_more own i h =
      let now = given_to i new es in
      let e : at new i ≡ with_lookback (lookback now i) (at now i) =
      entry_same (at new i) (with_lookback (lookback now i) (at now i)) (sym (alike_at now new (given_alike i) i)) (own i h ∙ sym (alike_lookback now new (given_alike i) i)) in
      set_next i h ∙ ap (set now i) e
