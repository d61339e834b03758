-- Batch reading into memory, in progress.
use Rattle.std.proofs.Common.{◌≡◌, ℕ, suc, ◌+◌, ◌<◌, ◌≤◌, List, [], ◌∷◌, ◌++◌, length, take, drop, set, sym, refl, ap, ◌∙◌, ap₂, inl, inr, arith}
use Rattle.std.proofs.lemmas.List.{length-drop, take_more_set, drop-set-lt, drop-drop, get_or_past}
use Rattle.std.proofs.lemmas.Bool.{cases_order}
use Rattle.books.specs.Tables.{Tables}
use Rattle.reading.specs.Reading.{Entry, entry, token, read, start, reach, none}
use Rattle.reading.specs.Laws.{total_length}
use Rattle.reading.proofs.Lists.{read_push, read_last, read_adds_up, read_each, read_end, mode_from, start_within}
use Rattle.reading.proofs.Token.{token_some, token_within, token_reading_within}

-- past a written record nothing has changed
pub left : {A : Type 0} (memory now : List A) (n : ℕ) (e : A) → drop n now ≡ drop n memory → drop (n + 1) (set now n e) ≡ drop (n + 1) memory
left memory now n e r = drop-set-lt (n + 1) now n e (omega arith) ∙ sym (drop-drop 1 n now) ∙ ap (drop 1) r ∙ drop-drop 1 n memory

module _ (t : Tables) (codes : List ℕ) (memory : List Entry) where
  -- the first n records are the entries up to `place`, after which the mode is `mode`; the others are as they were
  pub record Writing (now : List Entry) (place mode n : ℕ) : Type 0 where
    pub within : place ≤ length codes
    pub few : n ≤ place
    pub comes : take n now ++ read t mode 0 (drop place codes) ≡ read t 0 0 codes
    pub rest : drop n now ≡ drop n memory

  pub writing_none : Writing memory 0 0 0
  writing_none = record { within = omega arith; few = omega arith; comes = refl; rest = refl }

  -- the token e that was read at `spot`, which is `place`
  module _ (place mode spot : ℕ) (some : place < length codes) (here : spot ≡ place) (e : Entry) (long : ℕ) (size : long ≡ e.length) (is : e ≡ token t mode (drop spot codes)) where
    is_here : e ≡ token t mode (drop place codes)
    is_here = is ∙ ap (λ n. token t mode (drop n codes)) here

    extent : long ≡ (token t mode (drop place codes)).length
    extent = size ∙ ap (λ x. x.length) is_here

    pub token_sized : (1 ≤ long) × (place + long ≤ length codes)
    token_sized =
        let xs = drop place codes in
        let left : 0 < length xs = omega (arith, length-drop place codes) in
        (omega (arith, extent, token_some t mode xs), omega (arith, extent, length-drop place codes, token_within t mode xs left))

    pub writing_more : (now : List Entry) (n next : ℕ) → Writing now place mode n → n < length now → next ≡ e.mode → Writing (set now n e) (place + long) next (n + 1)
    writing_more now n next h room onward =
        record {
          within = token_sized.1;
          few = omega (arith, h.few, token_sized.0);
          comes =
              ap₂ ◌++◌ (take_more_set now n e room ∙ ap (λ x. take n now ++ x ∷ []) is_here) (ap₂ (λ m k. read t m 0 (drop (place + k) codes)) (onward ∙ ap (λ x. x.mode) is_here) extent)
              ∙ read_push t mode place codes (take n now) (read t 0 0 codes) some h.comes;
          rest = left memory now n e h.rest;
        }

  pub writing_all : (now : List Entry) (place mode n : ℕ) → Writing now place mode n → length codes ≤ place → n < length now →
      (e : Entry) → e ≡ entry 1 0 1 mode 0 → take (n + 1) (set now n e) ≡ read t 0 0 codes
  writing_all now place mode n h end room e is =
      take_more_set now n e room ∙ ap (λ x. take n now ++ x ∷ []) is
      ∙ read_last t mode place codes (take n now) (read t 0 0 codes) end h.comes

-- what an entry of a batch reading reads ends at the end of the text, which counts as one symbol, at the latest
pub reach_within : (t : Tables) (xs : List ℕ) (j : ℕ) → reach (read t 0 0 xs) j ≤ length xs + 1
reach_within t xs j =
    let es = read t 0 0 xs in
    let total : total_length es ≡ length xs = read_adds_up t 0 0 xs ∙ omega arith in
    let begins : start es j ≤ total_length es = start_within es j in
    elim (cases_order (suc j) (length es)) [
      | inl last ↦ omega (arith, ap (λ e. e.reading) (read_end t 0 xs j last))
      | inr other ↦ elim other [
        | inl before ↦
            let m = mode_from 0 es j in
            let ys = drop (start es j) xs in
            omega (arith, ap (λ e. e.reading) (read_each t 0 xs j before), token_reading_within t m ys, length-drop (start es j) xs)
        | inr past ↦ omega (arith, ap (λ e. e.reading) (get_or_past es j none (omega arith)))
      ]
    ]
