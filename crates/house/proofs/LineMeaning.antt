-- The promise of the line book.
use Rattle.std.proofs.Common.{◌≡◌, ℕ, suc, ◌+◌, ◌*◌, Bool, true, false, cond, not, ◌||◌, eqb, List, [], ◌∷◌, length, get_or, sym, refl, ap, ◌∙◌, subst, ⊎_elim, add-zero, add-one, arith}
use Rattle.std.proofs.lemmas.Bool.{true≢false, cases_Bool, cases_lt, cond-true, cond-false, eqb-true, ne_eqb, or_from, not_from_false}
use Rattle.std.proofs.lemmas.List.{get_or_past}
use Rattle.books.specs.Tables.{class, step, accept, closed, kind_of, next_mode}
use Rattle.reading.specs.Reading.{entry, path, final, state, longest, greatest, reading, matched, token_on, token}
use Rattle.reading.proofs.Local.{closed_path, path_step}
use Rattle.house.specs.House.{house_lines}
use Rattle.house.specs.Meaning.{line_length, ended, line, LinesRight}
use Rattle.house.proofs.Table.{tabled, at}

-- the class of a token kind
abbrev kind_class : ℕ → ℕ
kind_class k = cond (eqb k 5) 1 (cond (eqb k 4) 2 0)

-- computed at every code
classes_follow : tabled 256 (class house_lines) ≡ tabled 256 kind_class
unfolding house_lines
classes_follow = refl

class_is : (k : ℕ) → class house_lines k ≡ kind_class k
unfolding house_lines
class_is k =
    ⊎_elim
    (λ h. at 256 (class house_lines) kind_class classes_follow k h)
    (λ h.
    get_or_past house_lines.classes k 0 h
    ∙ sym (cond-false (eqb k 5) 1 (cond (eqb k 4) 2 0) (ne_eqb k 5 (λ e. omega arith)) ∙ cond-false (eqb k 4) 2 0 (ne_eqb k 4 (λ e. omega arith))))
    (cases_lt k 256)

-- where state s has the step of class c
abbrev entry_at : ℕ → ℕ → ℕ
entry_at s c = get_or house_lines.steps (s * 3 + c) 255

-- state s goes on in a line until a newline token leads to e, which is closed; both accept rule r
record Inside (s e r : ℕ) : Type 0 where
  goes : closed house_lines s ≡ false
  shut : closed house_lines e ≡ true
  other : entry_at s 0 ≡ s
  stops : entry_at s 1 ≡ e
  stamp : entry_at s 2 ≡ s
  state_s : eqb s 255 ≡ false
  state_e : eqb e 255 ≡ false
  rule_s : accept house_lines s ≡ r
  rule_e : accept house_lines e ≡ r
  some : eqb r 255 ≡ false
  mode : next_mode house_lines r ≡ 0

plain_line : Inside 1 3 1
unfolding house_lines
plain_line =
    record { goes = refl; shut = refl; other = refl; stops = refl; stamp = refl; state_s = refl; state_e = refl; rule_s = refl; rule_e = refl; some = refl; mode = refl }

stamped_line : Inside 2 4 0
unfolding house_lines
stamped_line =
    record { goes = refl; shut = refl; other = refl; stops = refl; stamp = refl; state_s = refl; state_e = refl; rule_s = refl; rule_e = refl; some = refl; mode = refl }

-- the states that a line comes to
abbrev run : ℕ → ℕ → List ℕ → List ℕ
run s e [] = []
run s e (k ∷ ks) = cond (eqb k 5) (e ∷ []) (s ∷ run s e ks)

to : (s next k : ℕ) (ks : List ℕ) → closed house_lines s ≡ false → step house_lines s k ≡ next → eqb next 255 ≡ false → path house_lines s (k ∷ ks) ≡ next ∷ path house_lines next ks
to s next k ks goes e some =
    path_step house_lines s k ks (or_from (closed house_lines s) (eqb (step house_lines s k) 255) goes (ap (λ n. eqb n 255) e ∙ some))
    ∙ ap (λ n. n ∷ path house_lines n ks) e

-- the last state of a path
last_state : (p : ℕ) (qs : List ℕ) (d : ℕ) → get_or (p ∷ qs) (length qs) d ≡ final p qs
last_state p [] d = refl
last_state p (q ∷ qs) d = last_state q qs d

-- a path whose last state accepts is matched whole
whole : (p : ℕ) (qs : List ℕ) (r : ℕ) → accept house_lines (final p qs) ≡ r → eqb r 255 ≡ false →
    token_on house_lines 0 0 (p ∷ qs) ≡ entry (kind_of house_lines r) (suc (length qs)) (suc (length qs) + cond (closed house_lines (final p qs)) 0 1) (next_mode house_lines r) 0
whole p qs r e some =
    let n = suc (length qs) in
    let at_end : accept house_lines (state 0 (p ∷ qs) n) ≡ r = ap (accept house_lines) (last_state p qs 0) ∙ e in
    let all : longest house_lines 0 (p ∷ qs) ≡ n =
    cond-true (not (eqb (accept house_lines (state 0 (p ∷ qs) n)) 255)) n (greatest (λ i. not (eqb (accept house_lines (state 0 (p ∷ qs) i)) 255)) (length qs))
    (not_from_false (eqb (accept house_lines (state 0 (p ∷ qs) n)) 255) (ap (λ a. eqb a 255) at_end ∙ some)) in
    ap (λ i. matched house_lines 0 (reading house_lines 0 (p ∷ qs)) i (accept house_lines (state 0 (p ∷ qs) i))) all
    ∙ ap (λ a. matched house_lines 0 (reading house_lines 0 (p ∷ qs)) n a) at_end

module _ (s e r : ℕ) (i : Inside s e r) where
  newline_step : (k : ℕ) → eqb k 5 ≡ true → step house_lines s k ≡ e
  unfolding house_lines
  newline_step k five = ap (entry_at s) (class_is k ∙ cond-true (eqb k 5) 1 (cond (eqb k 4) 2 0) five) ∙ i.stops

  other_step : (k : ℕ) → eqb k 5 ≡ false → step house_lines s k ≡ s
  unfolding house_lines
  other_step k five =
      ap (entry_at s) (class_is k ∙ cond-false (eqb k 5) 1 (cond (eqb k 4) 2 0) five)
      ∙ ⊎_elim
      (λ four. ap (entry_at s) (cond-true (eqb k 4) 2 0 four) ∙ i.stamp)
      (λ four. ap (entry_at s) (cond-false (eqb k 4) 2 0 four) ∙ i.other)
      (cases_Bool (eqb k 4))

  path_run : (ks : List ℕ) → path house_lines s ks ≡ run s e ks
  path_run [] = refl
  path_run (k ∷ ks) =
      ⊎_elim
      (λ five.
      to s e k ks i.goes (newline_step k five) i.state_e
      ∙ ap (λ ps. e ∷ ps) (closed_path house_lines e ks i.shut)
      ∙ sym (cond-true (eqb k 5) (e ∷ []) (s ∷ run s e ks) five))
      (λ five.
      to s s k ks i.goes (other_step k five) i.state_s
      ∙ ap (λ ps. s ∷ ps) (path_run ks)
      ∙ sym (cond-false (eqb k 5) (e ∷ []) (s ∷ run s e ks) five))
      (cases_Bool (eqb k 5))

  length_run : (ks : List ℕ) → length (run s e ks) ≡ line_length ks
  length_run [] = refl
  length_run (k ∷ ks) = go (eqb k 5) (length_run ks)
    where
      go : (b : Bool) → length (run s e ks) ≡ line_length ks → length (cond b (e ∷ []) (s ∷ run s e ks)) ≡ cond b 1 (suc (line_length ks))
      go true ih = refl
      go false ih = ap suc ih

  final_run : (ks : List ℕ) → final s (run s e ks) ≡ cond (ended ks) e s
  final_run [] = refl
  final_run (k ∷ ks) = go (eqb k 5) (final_run ks)
    where
      go : (b : Bool) → final s (run s e ks) ≡ cond (ended ks) e s → final s (cond b (e ∷ []) (s ∷ run s e ks)) ≡ cond (b || ended ks) e s
      go true ih = refl
      go false ih = ih

  rule_at : (b : Bool) → accept house_lines (cond b e s) ≡ r
  rule_at true = i.rule_e
  rule_at false = i.rule_s

  -- behind a newline token nothing is read, and else the end
  reads : (b : Bool) (n : ℕ) → n + cond (closed house_lines (cond b e s)) 0 1 ≡ cond b n (suc n)
  reads true n = ap (λ c. n + cond c 0 1) i.shut ∙ add-zero n
  reads false n = ap (λ c. n + cond c 0 1) i.goes ∙ add-one n

  -- the token of a line whose first kind leads to s
  line_from : (ks : List ℕ) → token_on house_lines 0 0 (s ∷ path house_lines s ks) ≡ entry (kind_of house_lines r) (suc (line_length ks)) (cond (ended ks) (suc (line_length ks)) (suc (suc (line_length ks)))) 0 0
  line_from ks =
      let n = line_length ks in
      ap (λ ps. token_on house_lines 0 0 (s ∷ ps)) (path_run ks)
      ∙ whole s (run s e ks) r (ap (accept house_lines) (final_run ks) ∙ rule_at (ended ks)) i.some
      ∙ ap (λ m. entry (kind_of house_lines r) (suc (length (run s e ks))) (suc (length (run s e ks)) + cond (closed house_lines (final s (run s e ks))) 0 1) m 0) i.mode
      ∙ ap (λ n. entry (kind_of house_lines r) (suc n) (suc n + cond (closed house_lines (final s (run s e ks))) 0 1) 0 0) (length_run ks)
      ∙ ap (λ f. entry (kind_of house_lines r) (suc n) (suc n + cond (closed house_lines f) 0 1) 0 0) (final_run ks)
      ∙ ap (λ x. entry (kind_of house_lines r) (suc n) x 0 0) (reads (ended ks) (suc n))

-- a line that begins with a newline token, with a stamp, or with any other token
newline_first : (ks : List ℕ) → token house_lines 0 (5 ∷ ks) ≡ line 5 ks
unfolding token house_lines
newline_first ks = ap (λ ps. token_on house_lines 0 0 (3 ∷ ps)) (closed_path house_lines 3 ks refl)

stamp_first : (ks : List ℕ) → token house_lines 0 (4 ∷ ks) ≡ line 4 ks
unfolding token house_lines
stamp_first ks = line_from 2 4 0 stamped_line ks

other_first : (k : ℕ) (ks : List ℕ) → eqb k 5 ≡ false → eqb k 4 ≡ false → token house_lines 0 (k ∷ ks) ≡ line k ks
unfolding token house_lines
other_first k ks five four =
    let first : step house_lines 0 k ≡ 1 = ap (entry_at 0) (class_is k ∙ cond-false (eqb k 5) 1 (cond (eqb k 4) 2 0) five ∙ cond-false (eqb k 4) 2 0 four) in
    ap (token_on house_lines 0 0) (to 0 1 k ks refl first refl)
    ∙ line_from 1 3 1 plain_line ks
    ∙ as_line (eqb k 5) (eqb k 4) five four
  where
    as_line : (b c : Bool) → b ≡ false → c ≡ false → entry 3 (suc (line_length ks)) (cond (ended ks) (suc (line_length ks)) (suc (suc (line_length ks)))) 0 0 ≡
        entry (cond c 2 3) (cond b 1 (suc (line_length ks))) (cond (b || ended ks) (cond b 1 (suc (line_length ks))) (suc (cond b 1 (suc (line_length ks))))) 0 0
    as_line true c e f = absurd (true≢false e)
    as_line false true e f = absurd (true≢false f)
    as_line false false e f = refl

pub lines_right : LinesRight house_lines
unfolding LinesRight
lines_right k ks =
    ⊎_elim
    (λ five. subst (λ k. token house_lines 0 (k ∷ ks) ≡ line k ks) (sym (eqb-true k 5 five)) (newline_first ks))
    (λ five.
    ⊎_elim
    (λ four. subst (λ k. token house_lines 0 (k ∷ ks) ≡ line k ks) (sym (eqb-true k 4 four)) (stamp_first ks))
    (λ four. other_first k ks five four)
    (cases_Bool (eqb k 4)))
    (cases_Bool (eqb k 5))
