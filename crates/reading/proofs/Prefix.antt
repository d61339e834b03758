-- Two texts that are the same before a place: what is read before it is the same.
use Rattle.std.proofs.Common.{◌≡◌, ℕ, zero, suc, ◌+◌, ◌<◌, ◌≤◌, List, [], ◌∷◌, ◌++◌, length, take, drop, sym, ap, ◌∙◌, subst, ap₂, add-one, arith}
use Rattle.std.proofs.lemmas.List.{take-take, take_more, take_at, drop-take, length-append, length-take-le, length-drop}
use Rattle.books.specs.Tables.{Tables}
use Rattle.books.specs.Sound.{Sound}
use Rattle.reading.specs.Reading.{Entry, token, read, start, none, at, reach}
use Rattle.reading.specs.Laws.{Agree, mode_before}
use Rattle.reading.proofs.Local.{depends_on_read}
use Rattle.reading.proofs.Lists.{read_push, read_some, start_more, mode_before_more}
use Rattle.reading.proofs.Split.{start_zero}
use Rattle.reading.proofs.Each.{each_token, each_reads}

-- texts with the same first r symbols
pub agree_take : (r : ℕ) (xs ys : List ℕ) → r ≤ length xs → r ≤ length ys → take r ys ≡ take r xs → Agree r xs ys
agree_take zero xs ys h l e = tt
agree_take (suc r) [] ys h l e = absurd (omega arith)
agree_take (suc r) (x ∷ xs) [] h l e = absurd (omega arith)
agree_take (suc r) (x ∷ xs) (y ∷ ys) h l e = (cc, agree_take r xs ys (omega arith) (omega arith) (cc))

-- the same, from place p on
pub agree_from : (a p r : ℕ) (xs ys : List ℕ) → a ≤ length xs → a ≤ length ys → take a ys ≡ take a xs → p + r ≤ a → Agree r (drop p xs) (drop p ys)
agree_from a p r xs ys h l e q =
    let cut : take (p + r) ys ≡ take (p + r) xs = sym (take-take (p + r) a ys q) ∙ ap (take (p + r)) e ∙ take-take (p + r) a xs q in
    let same : take r (drop p ys) ≡ take r (drop p xs) = sym (drop-take p r ys) ∙ ap (drop p) cut ∙ drop-take p r xs in
    agree_take r (drop p xs) (drop p ys) (omega (arith, length-drop p xs)) (omega (arith, length-drop p ys)) same

-- where the entries before f read nothing but what the texts share, the reading of the other text has them too, and goes on from there
module _ (t : Tables) (b : Sound t) (xs ys : List ℕ) (a : ℕ) (in-old : a ≤ length xs) (in-new : a ≤ length ys) (front : take a ys ≡ take a xs) where
  abbrev es : List Entry
  es = read t 0 0 xs

  abbrev fs : List Entry
  fs = read t 0 0 ys

  abbrev Goes_on : ℕ → Type 0
  Goes_on f = take f es ++ read t (mode_before es f) 0 (drop (start es f) ys) ≡ fs

  goes_on_more : (f : ℕ) → f + 1 < length es → reach es f ≤ a → Goes_on f → Goes_on (f + 1)
  goes_on_more f h l on =
      let m = mode_before es f in
      let p = start es f in
      let one : at es f ≡ token t m (drop p xs) = each_token t b xs f (omega arith) in
      let reads : 1 ≤ (at es f).reading = each_reads t b xs f (omega arith) in
      let there : p < length ys = omega arith in
      let agree : Agree (token t m (drop p xs)).reading (drop p xs) (drop p ys) = agree_from a p (token t m (drop p xs)).reading xs ys in-old in-new front (omega (arith, ap (λ e. e.reading) one)) in
      let same : token t m (drop p ys) ≡ at es f = depends_on_read t m (drop p xs) (drop p ys) agree ∙ sym one in
      let more : take (f + 1) es ≡ take f es ++ at es f ∷ [] = take_more es f none (omega arith) in
      let on' : (take f es ++ at es f ∷ []) ++ read t (at es f).mode 0 (drop (p + (at es f).length) ys) ≡ fs = subst (λ e. (take f es ++ e ∷ []) ++ read t e.mode 0 (drop (p + e.length) ys) ≡ fs) same (read_push t m p ys (take f es) fs there on) in
      ap (λ l. l ++ read t (mode_before es (f + 1)) 0 (drop (start es (f + 1)) ys)) more ∙
      ap₂ (λ k n. (take f es ++ at es f ∷ []) ++ read t k 0 (drop n ys)) (mode_before_more es f) (start_more es f) ∙ on'

  goes_on : (f : ℕ) → f < length es → ((j : ℕ) → j < f → reach es j ≤ a) → Goes_on f
  goes_on zero h before = ap (λ n. read t 0 0 (drop n ys)) (start_zero es)
  goes_on (suc f) h before =
      subst Goes_on (add-one f) (goes_on_more f (omega arith) (before f (omega arith)) (goes_on f (omega arith) (λ j l. before j (omega arith))))

  module _ (f : ℕ) (here : f < length es) (before : (j : ℕ) → j < f → reach es j ≤ a) where
    pub prefix_on : fs ≡ take f es ++ read t (mode_before es f) 0 (drop (start es f) ys)
    prefix_on = sym (goes_on f here before)

    pub prefix_same : take f fs ≡ take f es
    prefix_same = ap (take f) prefix_on ∙ take_at (take f es) _ f (length-take-le f es (omega arith))

    pub prefix_length : length fs ≡ f + length (read t (mode_before es f) 0 (drop (start es f) ys))
    prefix_length = ap length prefix_on ∙ length-append (take f es) _ ∙ ap (λ n. n + length (read t (mode_before es f) 0 (drop (start es f) ys))) (length-take-le f es (omega arith))

    pub prefix_within : f < length fs
    prefix_within = omega (arith, prefix_length, read_some t (mode_before es f) 0 (drop (start es f) ys))
