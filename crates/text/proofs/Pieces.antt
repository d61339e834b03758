-- What a move and a write inside a memory do to the text that the memory holds.
use Rattle.std.specs.Prelude.{◌≡◌, ℕ, ◌+◌, ◌-◌, ◌<◌, ◌≤◌, List, ◌++◌, length, take, drop, Some, slice_index_or}
use Rattle.std.proofs.Common.{ap, ◌∙◌, append_assoc, arith, rules, length-append, length-take, length-drop}
use Rattle.std.proofs.Math.Seq.{paste}
use Rattle.std.proofs.lemmas.List.Edits.{drop-paste}
use Rattle.std.proofs.lemmas.List.{same_lists, places, drop_at, drop-drop, get_or-append_right, get_or-drop, take-append-le, take-take}
use Rattle.std.specs.List.{slice_get}
use Rattle.std.proofs.lemmas.Option.{slice_get-get_or}
use Rattle.text.specs.Layout.{around}
use Rattle.text.specs.Replaced.{replaced}

pub length_around : (m : List ℕ) (g f : ℕ) → g + f ≤ length m → length (around g f m) ≡ length m - f
length_around m g f h = simp (length-append, length-take, length-drop) (omega arith)

pub take_length_take : (n : ℕ) (m : List ℕ) → take (length (take n m)) m ≡ take n m
take_length_take n m = same_lists _ _ (search (rules, places)) (λ k d h. grind (arith, places))

-- the byte at a place beyond the gap's start
pub nth_after : (m : List ℕ) (g f p x : ℕ) → g + f ≤ length m → g ≤ p → p + f < length m → x ≡ slice_index_or m (p + f) x → Some x ≡ slice_get (around g f m) p
nth_after m g f p x l h b e =
    let n = length_around m g f l in
    let t : length (take g m) ≡ g = simp length-take (omega arith) in
    let q : g + f + (p - g) ≡ p + f = omega arith in
    let a1 = slice_get-get_or (around g f m) p x (omega arith) in
    let a2 = get_or-append_right (take g m) (drop (g + f) m) g p x t h in
    let a3 = get_or-drop (g + f) m (p - g) x in
    cc

-- what lies before a write, what a write begins, and what lies behind it
pub take_before : (d s : List ℕ) (a n q : ℕ) → q ≤ a → a ≤ length d → take q (paste d a s n) ≡ take q d
take_before d s a n q h l =
    let e : length (take a d) ≡ a = simp length-take (omega arith) in
    let h1 : q ≤ length (take a d) = omega arith in
    let h2 : q ≤ length (take a d ++ take n s) = simp length-append (omega arith) in
    take-append-le q (take a d ++ take n s) (drop (a + n) d) h2 ∙ take-append-le q (take a d) (take n s) h1 ∙ take-take q a d h

pub drop_to : (d s : List ℕ) (a n : ℕ) → a ≤ length d → drop a (paste d a s n) ≡ take n s ++ drop (a + n) d
drop_to d s a n l =
    let e : length (take a d) ≡ a = simp length-take (omega arith) in
    ap (drop a) (append_assoc (take a d) (take n s) (drop (a + n) d)) ∙ drop_at (take a d) (take n s ++ drop (a + n) d) a e

pub drop_behind : (d s : List ℕ) (a n q : ℕ) → a + n ≤ q → a ≤ length d → n ≤ length s → drop q (paste d a s n) ≡ drop q d
drop_behind d s a n q h l l2 =
    let e : a + n + (q - (a + n)) ≡ q = omega arith in
    let p = drop-paste d a s n l l2 in
    let x = drop-drop (q - (a + n)) (a + n) (paste d a s n) in
    let y = drop-drop (q - (a + n)) (a + n) d in
    cc

-- bytes that are moved to where they are
pub paste_self : (m : List ℕ) (a k : ℕ) → a + k ≤ length m → paste m a (drop a m) k ≡ m
paste_self m a k h = same_lists _ _ (search (rules, places)) (λ k d b. grind (arith, places))

-- a gap moved to the left, and to the right
pub gap_left : (m : List ℕ) (g f p : ℕ) → p ≤ g → g + f ≤ length m → around p f (paste m (p + f) (drop p m) (g - p)) ≡ around g f m
gap_left m g f p h l = same_lists _ _ (search (rules, places)) (λ k d b. grind (arith, places))

pub gap_right : (m : List ℕ) (g f p : ℕ) → g ≤ p → p + f ≤ length m → around p f (paste m g (drop (g + f) m) (p + f - (g + f))) ≡ around g f m
gap_right m g f p h l = same_lists _ _ (search (rules, places)) (λ k d b. grind (arith, places))

-- the bytes i written at the start of a gap that takes in the c bytes behind it
pub gap_filled : (m i : List ℕ) (a f c : ℕ) → length i ≤ f + c → a + f + c ≤ length m → around (a + length i) (f + c - length i) (paste m a i (length i)) ≡ replaced (around a f m) a c i
gap_filled m i a f c h l = same_lists _ _ (search (rules, places)) (λ k d b. grind (arith, places))

-- what lies behind the cut moved, and the bytes i written before it
pub flat_spliced : (m i : List ℕ) (n a c : ℕ) → a + c ≤ n → n ≤ length m → n - c + length i ≤ length m → take (n - c + length i) (paste (paste m (a + length i) (drop (a + c) m) (n - (a + c))) a i (length i)) ≡ replaced (take n m) a c i
flat_spliced m i n a c h l r = same_lists _ _ (search (rules, places)) (λ k d b. grind (arith, places))
