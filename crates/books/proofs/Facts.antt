-- What a draft without a fault keeps, and so a book.
use Rattle.std.proofs.Common.{◌≡◌, ℕ, ◌+◌, ◌*◌, ◌<◌, ◌≤◌, true, leb, length, get_or, Some, None, IfSome, sym, subst, inl, inr, mul_comm, arith, lit<}
use Rattle.std.proofs.lemmas.Nat.{mul-add-lt, mul-le}
use Rattle.std.specs.List.{range_with_len}
use Rattle.std.proofs.lemmas.List.{get_or_past}
use Rattle.std.proofs.lemmas.List.FromFn.{length-range_with_len, get_or-range_with_len}
use Rattle.std.proofs.lemmas.Bool.{cases_lt, cases_eq, ltb-true, leb-true, eqb-true, eq-eqb, ne_eqb, and_parts, not-true, or_cases}
use Rattle.books.specs.declared.book.Book.{Book}
use Rattle.books.specs.declared.fault.BookFault.TheVariants.{Count, Length, Class, Step, Accept, Rule, Start}
use Rattle.books.specs.Tables.{Tables, class, step, present, next_mode, start_state}
use Rattle.books.specs.Sound.{Sound, below_or_none}
use Rattle.books.specs.Check.{Plan, counted, counts_right, lengths_right, class_right, step_right, accept_right, rule_right, start_right, count_fault, length_fault, class_fault, step_fault, accept_fault, rule_fault, start_fault, fault}
use Rattle.books.specs.Plans.{held}
use Rattle.books.specs.Meaning.{tables}
use Rattle.books.proofs.Questions.{none_from_test, first_none, mapped_none, each_yes}

-- no question gets a no
pub record Answered (p : Plan) : Type 0 where
  pub counts : count_fault p ≡ None
  pub lengths : length_fault p ≡ None
  pub classes : class_fault p ≡ None
  pub steps : step_fault p ≡ None
  pub accepts : accept_fault p ≡ None
  pub rules : rule_fault p ≡ None
  pub starts : start_fault p ≡ None

pub answered : (p : Plan) → fault p ≡ None → Answered p
unfolding fault
answered p e =
    let a = first_none (count_fault p) _ e in
    let b = first_none (length_fault p) _ a.1 in
    let c = first_none (class_fault p) _ b.1 in
    let f = first_none (step_fault p) _ c.1 in
    let g = first_none (accept_fault p) _ f.1 in
    let h = first_none (rule_fault p) _ g.1 in
    let i = first_none (start_fault p) _ h.1 in
    record {
      counts = a.0;
      lengths = b.0;
      classes = c.0;
      steps = f.0;
      accepts = g.0;
      rules = h.0;
      starts = i.0;
    }

-- the counts within their bounds
pub record Counted (p : Plan) : Type 0 where
  pub some_state : 1 ≤ p.states
  pub few_states : p.states ≤ 128
  pub some_class : 1 ≤ p.tables.width
  pub few_classes : p.tables.width ≤ 32
  pub some_mode : 1 ≤ p.modes
  pub few_modes : p.modes ≤ 16
  pub some_rule : 1 ≤ p.rules
  pub few_rules : p.rules ≤ 64

in_bounds : (n most : ℕ) → counted n most ≡ true → (1 ≤ n) × (n ≤ most)
in_bounds n most e = let p = and_parts (leb 1 n) (leb n most) e in (leb-true 1 n p.0, leb-true n most p.1)

pub counts_known : (p : Plan) → count_fault p ≡ None → Counted p
counts_known p e =
    let yes : (k : ℕ) → k < 4 → get_or (counts_right p) k true ≡ true = each_yes (λ yes. yes) (counts_right p) true (mapped_none Count _ e) in
    let s = in_bounds p.states 128 (yes 0 (lit< tt)) in
    let c = in_bounds p.tables.width 32 (yes 1 (lit< tt)) in
    let m = in_bounds p.modes 16 (yes 2 (lit< tt)) in
    let r = in_bounds p.rules 64 (yes 3 (lit< tt)) in
    record {
      some_state = s.0;
      few_states = s.1;
      some_class = c.0;
      few_classes = c.1;
      some_mode = m.0;
      few_modes = m.1;
      some_rule = r.0;
      few_rules = r.1;
    }

-- the tables as long as the counts say
pub record Measured (p : Plan) : Type 0 where
  pub classes : length p.tables.classes ≡ 256
  pub steps : length p.tables.steps ≡ p.states * p.tables.width
  pub accepts : length p.tables.accepts ≡ p.states
  pub rules : length p.tables.rules ≡ 2 * p.rules
  pub starts : length p.tables.starts ≡ p.modes

pub lengths_known : (p : Plan) → length_fault p ≡ None → Measured p
lengths_known p e =
    let yes : (k : ℕ) → k < 5 → get_or (lengths_right p) k true ≡ true = each_yes (λ yes. yes) (lengths_right p) true (mapped_none Length _ e) in
    record {
      classes = eqb-true _ _ (yes 0 (lit< tt));
      steps = eqb-true _ _ (yes 1 (lit< tt));
      accepts = eqb-true _ _ (yes 2 (lit< tt));
      rules = eqb-true _ _ (yes 3 (lit< tt));
      starts = eqb-true _ _ (yes 4 (lit< tt));
    }

rule_yes : (p : Plan) → rule_fault p ≡ None → (r : ℕ) → r < p.rules → rule_right p r ≡ true
rule_yes p e r h =
    let at : get_or (range_with_len 0 p.rules) r 0 ≡ r = omega (arith, get_or-range_with_len 0 p.rules r 0 h) in
    subst (λ (k : ℕ). rule_right p k ≡ true) at
    (each_yes (rule_right p) (range_with_len 0 p.rules) 0 (mapped_none Rule _ e) r (omega (arith, length-range_with_len 0 p.rules)))

pub sound_from_answers : (p : Plan) → Answered p → Sound p.tables
sound_from_answers p a =
    let n = counts_known p a.counts in
    let l = lengths_known p a.lengths in
    let ss : length p.tables.accepts ≡ p.states = l.accepts in
    let ms : length p.tables.starts ≡ p.modes = l.starts in
    let cs : length p.tables.classes ≡ 256 = l.classes in
    let at-state : (P : ℕ → Type 0) → P p.states → P (length p.tables.accepts) = λ P h. subst P (sym ss) h in
    let at-mode : (P : ℕ → Type 0) → P p.modes → P (length p.tables.starts) = λ P h. subst P (sym ms) h in
    record {
      rules = p.rules;
      some_state = omega arith;
      few_states = omega arith;
      some_class = n.some_class;
      few_classes = n.few_classes;
      some_mode = omega arith;
      few_modes = omega arith;
      some_rule = n.some_rule;
      few_rules = n.few_rules;
      each_code = cs;
      each_step = at-state (λ s. length p.tables.steps ≡ s * p.tables.width) l.steps;
      each_rule = l.rules;
      class_below = λ x h. ltb-true _ _ (each_yes (class_right p) p.tables.classes 0 (mapped_none Class _ a.classes) x (omega arith));
      step_below = λ i h. at-state (λ s. below_or_none s (get_or p.tables.steps i 255) ≡ true) (each_yes (step_right p) p.tables.steps 255 (mapped_none Step _ a.steps) i h);
      accept_below = λ s h. each_yes (accept_right p) p.tables.accepts 255 (mapped_none Accept _ a.accepts) s h;
      rule_kind = λ r h. leb-true 2 _ (and_parts _ _ (rule_yes p a.rules r h)).0;
      rule_mode = λ r h. at-mode (λ m. next_mode p.tables r < m) (ltb-true _ _ (and_parts _ _ (rule_yes p a.rules r h)).1);
      start_below = λ m h. at-state (λ s. start_state p.tables m < s) (ltb-true _ _ (and_parts _ _ (each_yes (start_right p) p.tables.starts 0 (mapped_none Start _ a.starts) m h)).0);
      start_open = λ m h. not-true _ (and_parts _ _ (each_yes (start_right p) p.tables.starts 0 (mapped_none Start _ a.starts) m h)).1;
    }

pub book_answered : (b : Book) → Answered (held b.copies)
book_answered b = answered (held b.copies) (none_from_test (fault (held b.copies)) b.sound)

pub book_sound : (b : Book) → Sound (tables b)
book_sound b = sound_from_answers (held b.copies) (book_answered b)

pub book_counted : (b : Book) → Counted (held b.copies)
book_counted b = counts_known (held b.copies) (book_answered b).counts

pub book_measured : (b : Book) → Measured (held b.copies)
book_measured b = lengths_known (held b.copies) (book_answered b).lengths

-- the entry of a state and a class in the step table
pub step_place : (t : Tables) → Sound t → (s k : ℕ) → s < length t.accepts → k < t.width → s * t.width + k < length t.steps
step_place t sound s k in-states in-width =
    omega (arith, mul-add-lt s t.width k (length t.accepts) in-states in-width, mul_comm t.width (length t.accepts), sound.each_step)

-- the entry of a state at a code
pub code_place : (t : Tables) → Sound t → (s x : ℕ) → s < length t.accepts → x < 256 → s * t.width + class t x < length t.steps
code_place t sound s x in-states in-codes = step_place t sound s (class t x) in-states (sound.class_below x in-codes)

pub steps_low : (t : Tables) → Sound t → length t.steps ≤ 4096
steps_low t sound =
    omega (arith, mul-le (length t.accepts) t.width 128 32 sound.few_states sound.few_classes, sound.each_step)

-- where the step of a state at a code stands in a book
pub book_step_place : (b : Book) (s x : ℕ) → s < length (tables b).accepts → x < 256 → (s * (tables b).width + class (tables b) x < length (tables b).steps) × (length (tables b).steps ≤ 4096)
book_step_place b s x in-states in-codes = (code_place (tables b) (book_sound b) s x in-states in-codes, steps_low (tables b) (book_sound b))

-- what a table's byte is where it names something, and where it names nothing
pub present_some : (x y : ℕ) → present x ≡ Some y → (x ≡ y) × (x ≡ 255 → ⊥)
present_some x y e =
    elim (cases_eq x 255) [
      | inl none ↦ let nothing : None ≡ Some y = rw (eq-eqb x 255 none) at e in (cc, cc)
      | inr some ↦ let it : Some x ≡ Some y = rw (ne_eqb x 255 some) at e in (cc, some)
    ]

pub present_none : (x : ℕ) → present x ≡ None → x ≡ 255
present_none x e =
    elim (cases_eq x 255) [
      | inl none ↦ none
      | inr some ↦ let it : Some x ≡ None = rw (ne_eqb x 255 some) at e in cc
    ]

-- a byte that names something below n or nothing
below_present : (n x : ℕ) → below_or_none n x ≡ true → IfSome (present x) (λ y. y < n)
below_present n x e =
    elim (cases_eq x 255) [
      | inl none ↦ rw (eq-eqb _ _ none) tt
      | inr some ↦ rw (ne_eqb _ _ some) (elim (or_cases _ _ e) [
        | inl below ↦ ltb-true _ _ below
        | inr none ↦ absurd (some (eqb-true _ _ none))
      ])
    ]

pub step_within : (t : Tables) → Sound t → (s x : ℕ) → s < length t.accepts → x < 256 → (step t s x ≡ 255 → ⊥) → step t s x < length t.accepts
step_within t sound s x in-states in-codes some =
    elim (or_cases _ _ (sound.step_below (s * t.width + class t x) (code_place t sound s x in-states in-codes))) [
      | inl below ↦ ltb-true _ _ below
      | inr none ↦ absurd (some (eqb-true _ _ none))
    ]

pub start_within : (t : Tables) → Sound t → (m : ℕ) → start_state t m < length t.accepts
start_within t sound m =
    elim (cases_lt m (length t.starts)) [
      | inl within ↦ sound.start_below m within
      | inr past ↦ rw (get_or_past t.starts m 0 past) sound.some_state
    ]

-- the same of a book, whose lookup answers what the byte names
pub book_step_within : (b : Book) (s x : ℕ) → s < length (tables b).accepts → x < 256 → IfSome (present (step (tables b) s x)) (λ y. y < length (tables b).accepts)
book_step_within b s x in-states in-codes =
    below_present _ _ ((book_sound b).step_below (s * (tables b).width + class (tables b) x) (book_step_place b s x in-states in-codes).0)

pub book_start_within : (b : Book) (m : ℕ) → start_state (tables b) m < length (tables b).accepts
book_start_within b m = start_within (tables b) (book_sound b) m
