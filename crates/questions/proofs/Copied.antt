-- Bytes copied out of a text.
use Rattle.std.proofs.Common.{◌≡◌, ℕ, ◌+◌, ◌-◌, ◌^◌, ◌<◌, ◌≤◌, min, cond, ltb, leb, List, [], ◌∷◌, ◌++◌, length, get_or, take, drop, set, Some, None, sym, ap, ◌∙◌, ap₂, inl, inr, append_assoc, arith}
use Rattle.std.specs.List.{slice_get}
use Rattle.std.proofs.lemmas.List.{length-drop, length-take, length-take-le, take_more, drop_more, set_at, get_or-drop, drop-append-le, take-append-drop}
use Rattle.std.proofs.lemmas.Option.{slice_get-get_or}
use Rattle.std.proofs.lemmas.Bool.{cases_lt}
use Rattle.std.proofs.lemmas.Grind.{common_steps}
use Rattle.reading.specs.Reading.{Entry, at}
use Rattle.requests.specs.Asked.{copied, not_copied}
use Rattle.requests.specs.Sheets.{copy_of, bytes_of, no_token, short_buffer}
use Rattle.questions.specs.Loose.{LiesWithin, copy_from}

-- the bytes of text s from a place on, put one by one over the old ones
module _ (s : List ℕ) (from : ℕ) (old : List ℕ) where
  pub put_more : (part : List ℕ) (i x place : ℕ) → part ≡ take i (drop from s) ++ drop i old → i < length old → place ≡ from + i → place < length s → Some x ≡ slice_get s place → set part i x ≡ take (i + 1) (drop from s) ++ drop (i + 1) old
  put_more part i x place e h p w r =
      let byte : get_or (drop from s) i 0 ≡ x = cc (get_or-drop from s i 0, slice_get-get_or s place 0 w, ap (λ n. get_or s n 0) p) in
      let long : length (take i (drop from s)) ≡ i = length-take-le i (drop from s) (omega (arith, length-drop from s)) in
      ap (λ xs. set xs i x) (e ∙ ap (λ ys. take i (drop from s) ++ ys) (drop_more old i 0 h)) ∙ set_at (take i (drop from s)) _ (drop (i + 1) old) x i long ∙
      sym (append_assoc (take i (drop from s)) (x ∷ []) (drop (i + 1) old)) ∙
      ap (λ ys. ys ++ drop (i + 1) old) (ap (λ y. take i (drop from s) ++ y ∷ []) (sym byte) ∙ sym (take_more (drop from s) i 0 (omega (arith, length-drop from s))))

  -- within the text there is a byte
  pub there : (place : ℕ) → place < length s → None ≡ slice_get s place → ⊥
  there place w r = cc (slice_get-get_or s place 0 w)

-- part of a list that lies behind a place, and what follows the part
rejoined : (d m : ℕ) (b : List ℕ) → m ≤ length b → drop d (take m b) ++ drop m b ≡ drop (min m d) b
rejoined d m b h =
    elim (cases_lt m d) [
      | inl k ↦ grind (arith, common_steps)
      | inr k ↦ sym (drop-append-le d (take m b) (drop m b) (omega (arith, length-take m b))) ∙ ap (drop d) (take-append-drop m b) ∙ ap (λ n. drop n b) (omega arith)
    ]

-- a place behind every text counts as each other one
behind : (s : List ℕ) (from sum : ℕ) → length s < 2 ^ 64 → sum ≡ min from (2 ^ 64 - 1) → drop sum s ≡ drop from s
behind s from sum small e = grind (arith, common_steps)

-- the first m bytes of a buffer read from a place on, and what follows them
pub front_read : (s b part : List ℕ) (from sum m : ℕ) → m ≤ length b → length s < 2 ^ 64 → sum ≡ min from (2 ^ 64 - 1) →
    part ≡ take (length (take m b)) (drop sum s) ++ drop (length (drop sum s)) (take m b) → part ++ drop m b ≡ take m (drop from s) ++ drop (length (take m (drop from s))) b
front_read s b part from sum m h small es e =
    let same = behind s from sum small es in
    let long : length (take m b) ≡ m = omega (arith, length-take m b) in
    let rest : drop (length (drop sum s)) (take m b) ++ drop m b ≡ drop (length (take m (drop from s))) b =
    rejoined (length (drop sum s)) m b h ∙ ap (λ n. drop n b) (omega (arith, ap length same, length-take m (drop from s))) in
    ap (λ xs. xs ++ drop m b) e ∙ append_assoc _ _ (drop m b) ∙ ap₂ (λ xs ys. xs ++ ys) (ap₂ take long same) rest

module _ (s : List ℕ) (es : List Entry) (n : ℕ) (b : List ℕ) where
  -- where the token lies within the text, a copy is as defined for the text's own list
  pub own : LiesWithin s es n → copy_from s es n b ≡ copy_of s es n b
  unfolding copy_from copy_of
  own w =
      let long : length (bytes_of s es n) ≡ (at es n).length = grind (arith, common_steps) in
      ap (λ k. cond (ltb n (length es)) (cond (leb (at es n).length (length b)) (copied (at es n).length (bytes_of s es n ++ drop k b)) (not_copied (short_buffer (at es n).length) b)) (not_copied (no_token n) b))
      long

-- what a copy of a token that lies within the text puts to the front are the token's bytes
pub bytes_copied : (s : List ℕ) (es : List Entry) (n : ℕ) (b now : List ℕ) (k : ℕ) → LiesWithin s es n → copied k now ≡ copy_from s es n b → (n < length es) × (take k now ≡ bytes_of s es n)
unfolding copy_from
bytes_copied s es n b now k w e =
    let long : length (bytes_of s es n) ≡ (at es n).length = grind (arith, common_steps) in
    grind (arith, common_steps)
