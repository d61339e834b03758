-- A text has no other list than its batch reading.
use Rattle.std.proofs.Common.{◌≡◌, ℕ, zero, suc, ◌+◌, ◌-◌, ◌<◌, ◌≤◌, ltb, List, [], ◌∷◌, map, length, drop, sym, refl, ap, ◌∙◌, subst, ap₂, inl, inr, arith, drop-drop}
use Rattle.std.proofs.lemmas.List.{ext_get_or, length-drop, length-map}
use Rattle.std.proofs.lemmas.Bool.{cases_lt}
use Rattle.books.specs.Tables.{Tables, accept, start_state}
use Rattle.reading.specs.Reading.{Entry, entry, path, state, longest, reading, matched, token, read, start, none, at, reach, lookback, with_lookback, listed, batch}
use Rattle.reading.specs.Laws.{mode_before, total_length, Reads}
use Rattle.reading.proofs.Greatest.{greatest_same}
use Rattle.reading.proofs.Token.{token_some}
use Rattle.reading.proofs.Lists.{read_none, read_more, mode_from, mode_from_next}
use Rattle.reading.proofs.Lookback.{length_listed, at_listed}
use Rattle.reading.proofs.Batch.{batch_is}

-- entries that are tokens one after another, and the end token at last, are the reading of their text
pub read_only : (t : Tables) (m : ℕ) (xs : List ℕ) (es : List Entry) → 1 ≤ length es → total_length es ≡ length xs →
    ((j : ℕ) → suc j < length es → at es j ≡ token t (mode_from m es j) (drop (start es j) xs)) →
    ((j : ℕ) → suc j ≡ length es → at es j ≡ entry 1 0 1 (mode_from m es j) 0) →
    es ≡ read t m 0 xs
read_only t m xs [] some sum each last = absurd (omega arith)
read_only t m xs (e ∷ []) some sum each last =
    let end : e ≡ entry 1 0 1 m 0 = last 0 refl in
    ap (λ f. f ∷ []) end ∙ sym (read_none t m xs (omega (arith, ap (λ f. f.length) end)))
read_only t m xs (e ∷ f ∷ es) some sum each last =
    let first : e ≡ token t m xs = each 0 (omega arith) in
    let long : 1 ≤ e.length = subst (λ g. 1 ≤ g.length) (sym first) (token_some t m xs) in
    let rest : f ∷ es ≡ read t e.mode 0 (drop e.length xs) =
    read_only
    t
    e.mode
    (drop e.length xs)
    (f ∷ es)
    (omega arith)
    (omega (arith, length-drop e.length xs))
    (λ j h. each (suc j) (omega arith) ∙ ap₂ (token t) (mode_from_next m e (f ∷ es) j) (sym (drop-drop (start (f ∷ es) j) e.length xs)))
    (λ j h. last (suc j) (omega arith) ∙ ap (λ k. entry 1 0 1 k 0) (mode_from_next m e (f ∷ es) j)) in
    ap₂ ◌∷◌ first (rest ∙ ap (λ g. read t g.mode 0 (drop g.length xs)) first) ∙ sym (read_more t m xs (omega arith))

matched_bare : (t : Tables) (m r n rule : ℕ) → with_lookback 0 (matched t m r n rule) ≡ matched t m r n rule
matched_bare t m r zero rule = refl
matched_bare t m r (suc n) rule = refl

-- a token has no lookback yet
pub token_bare : (t : Tables) (m : ℕ) (xs : List ℕ) → with_lookback 0 (token t m xs) ≡ token t m xs
unfolding token
token_bare t m xs =
    let s = start_state t m in
    let ps = path t s xs in
    matched_bare t m (reading t s ps) (longest t s ps) (accept t (state s ps (longest t s ps)))

-- the entries of a list without their lookbacks
abbrev pub bare : List Entry → List Entry
bare es = map (with_lookback 0) es

pub at_bare : (es : List Entry) (j : ℕ) → at (bare es) j ≡ with_lookback 0 (at es j)
at_bare [] j = refl
at_bare (e ∷ es) zero = refl
at_bare (e ∷ es) (suc j) = at_bare es j

pub start_bare : (es : List Entry) (j : ℕ) → start (bare es) j ≡ start es j
start_bare [] j = refl
start_bare (e ∷ es) zero = refl
start_bare (e ∷ es) (suc j) = ap (λ n. e.length + n) (start_bare es j)

pub total_bare : (es : List Entry) → total_length (bare es) ≡ total_length es
total_bare [] = refl
total_bare (e ∷ es) = ap (λ n. e.length + n) (total_bare es)

mode_bare : (es : List Entry) (j : ℕ) → mode_from 0 (bare es) j ≡ mode_before es j
mode_bare es zero = refl
mode_bare es (suc j) = ap (λ e. e.mode) (at_bare es j)

pub lookback_bare : (es : List Entry) (j : ℕ) → lookback (bare es) j ≡ lookback es j
lookback_bare es j =
    greatest_same
    (λ b. ltb (start (bare es) j) (reach (bare es) (j - b)))
    (λ b. ltb (start es j) (reach es (j - b)))
    j
    (λ b x y. ap₂ ltb (start_bare es j) (ap₂ (λ n e. n + e.reading) (start_bare es (j - b)) (at_bare es (j - b))))

module _ (t : Tables) (xs : List ℕ) (es : List Entry) (h : Reads t xs es) where
  len : length (bare es) ≡ length es
  len = length-map es (with_lookback 0)

  last_of : (j : ℕ) → suc j ≡ length es → at es j ≡ entry 1 0 1 (mode_before es j) (lookback es j)
  last_of j e = let here : length es - 1 ≡ j = omega arith in subst (λ i. at es i ≡ entry 1 0 1 (mode_before es i) (lookback es i)) here h.last

  bare_read : bare es ≡ read t 0 0 xs
  bare_read =
      read_only
      t
      0
      xs
      (bare es)
      (omega (arith, len, h.some))
      (total_bare es ∙ h.adds_up)
      (λ j l. at_bare es j ∙ ap (with_lookback 0) (h.each j (omega (arith, len))) ∙ token_bare t (mode_before es j) (drop (start es j) xs) ∙ sym (ap₂ (λ m n. token t m (drop n xs)) (mode_bare es j) (start_bare es j)))
      (λ j l. at_bare es j ∙ ap (with_lookback 0) (last_of j (omega (arith, len))) ∙ ap (λ m. entry 1 0 1 m 0) (sym (mode_bare es j)))

  -- each entry has the lookback that is due
  given : (j : ℕ) → j < length es → (at es j).lookback ≡ lookback es j
  given j l =
      elim (cases_lt (suc j) (length es)) [
        | inl a ↦ ap (λ e. e.lookback) (h.each j a)
        | inr a ↦ ap (λ e. e.lookback) (last_of j (omega arith))
      ]

  own : (j : ℕ) → j < length es → at es j ≡ with_lookback (lookback es j) (at es j)
  own j l = sym (ap (λ b. with_lookback b (at es j)) (sym (given j l)))

  relisted : es ≡ listed (bare es) (bare es) 0
  relisted =
      ext_get_or
      none
      es
      (listed (bare es) (bare es) 0)
      (sym (length_listed (bare es) (bare es) 0 ∙ len))
      (λ j l. own j l ∙ sym (at_listed (bare es) j (omega (arith, len)) ∙ ap₂ with_lookback (lookback_bare es j) (at_bare es j)))

-- whatever is a list of a text is its batch reading
pub reads_only : (t : Tables) (xs : List ℕ) (es : List Entry) → Reads t xs es → es ≡ batch t xs
reads_only t xs es h = relisted t xs es h ∙ sym (batch_is t xs (bare es) (bare_read t xs es h))
