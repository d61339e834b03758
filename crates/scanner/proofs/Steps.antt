-- A scan in progress, over the codes of a source of symbols.
use Rattle.std.proofs.Common.{◌≡◌, ℕ, zero, suc, ◌+◌, ◌<◌, ◌≤◌, true, false, not, List, [], ◌∷◌, length, drop, Some, None, Option, sym, refl, ap, ◌∙◌, subst, ap₂, add-zero, add_assoc, nat_eq, arith}
use Rattle.std.specs.List.{slice_get}
use Rattle.std.specs.Option.{option_eq}
use Rattle.std.proofs.lemmas.Bool.{eqb-true, not-false}
use Rattle.std.proofs.lemmas.List.{drop_more}
use Rattle.std.proofs.lemmas.Option.{slice_get_within, get_or_from_slice_get}
use Rattle.books.proofs.Facts.{present_some, present_none}
use Rattle.books.specs.Tables.{Tables, present, step, closed, accept, start_state}
use Rattle.reading.specs.Reading.{Entry, entry, matched, token}
use Rattle.reading.specs.Laws.{LongestMatch, DependsOnRead}
use Rattle.reading.proofs.Longest.{longest_match}
use Rattle.reading.proofs.Local.{depends_on_read}
use Rattle.scanner.specs.Scanned.{scanned, Stays}
use Rattle.reading.proofs.Run.{scan, run, given_by, token_run, run_closed, run_end, run_none, run_step, run_accept}

-- nothing is left of a list from a place on where nothing stands
drop_none : (xs : List ℕ) (i : ℕ) → slice_get xs i ≡ None → drop i xs ≡ []
drop_none [] zero e = refl
drop_none [] (suc i) e = refl
drop_none (y ∷ xs) zero e = cc
drop_none (y ∷ xs) (suc i) e = drop_none xs i e

-- what stands at a place that is known by another name
pub there : (codes : List ℕ) {found : Option ℕ} {i j : ℕ} → found ≡ slice_get codes i → i ≡ j → found ≡ slice_get codes j
there codes e p = e ∙ ap (slice_get codes) p

-- an answer that passes for the same state
pub same_state : (answer : Option ℕ) (s : ℕ) → false ≡ not (option_eq nat_eq answer (Some s)) → answer ≡ Some s
same_state None s e = cc
same_state (Some x) s e = ap Some (eqb-true x s (not-false (nat_eq x s) (sym e)))

-- a scan that began at `place` in `mode`, and stands in state s after `reading` steps
pub record Scanning (t : Tables) (codes : List ℕ) (mode place s reading kept rule : ℕ) : Type 0 where
  pub within : place + reading ≤ length codes
  pub below : s < length t.accepts
  pub goes : run t s reading kept rule (drop (place + reading) codes) ≡ run t (start_state t mode) 0 0 255 (drop place codes)

pub begins : (t : Tables) (codes : List ℕ) (mode place s : ℕ) → place ≤ length codes → s ≡ start_state t mode → s < length t.accepts → Scanning t codes mode place s 0 0 255
begins t codes mode place s h e l =
    record { within = omega arith; below = l; goes = ap₂ (λ z n. run t z 0 0 255 (drop n codes)) e (add-zero place) }

module _ (t : Tables) (codes : List ℕ) (mode place s reading kept rule : ℕ) (h : Scanning t codes mode place s reading kept rule) where
  -- what the scan ends in is the token
  ends : (n : ℕ) → run t s reading kept rule (drop (place + reading) codes) ≡ scan kept rule n → matched t mode n kept rule ≡ token t mode (drop place codes)
  ends n e = ap (given_by t mode) (sym e ∙ h.goes) ∙ sym (token_run t mode 255 (drop place codes))

  pub ends_closed : closed t s ≡ true → matched t mode reading kept rule ≡ token t mode (drop place codes)
  ends_closed c = ends reading (run_closed t s reading kept rule (drop (place + reading) codes) c)

  pub ends_last : closed t s ≡ false → None ≡ slice_get codes (place + reading) → matched t mode (reading + 1) kept rule ≡ token t mode (drop place codes)
  ends_last c e = ends (reading + 1) (ap (run t s reading kept rule) (drop_none codes (place + reading) (sym e)) ∙ run_end t s reading kept rule c)

  module _ (x : ℕ) (c : closed t s ≡ false) (e : Some x ≡ slice_get codes (place + reading)) where
    rest : drop (place + reading) codes ≡ x ∷ drop (place + (reading + 1)) codes
    rest =
        let one : place + reading + 1 ≡ place + (reading + 1) = omega arith in
        drop_more codes (place + reading) x (slice_get_within codes _ x (sym e)) ∙ ap₂ (λ y n. y ∷ drop n codes) (get_or_from_slice_get codes _ x x (sym e)) one

    pub ends_stuck : step t s x ≡ 255 → matched t mode (reading + 1) kept rule ≡ token t mode (drop place codes)
    ends_stuck q = ends (reading + 1) (ap (run t s reading kept rule) rest ∙ run_none t s reading kept rule x (drop (place + (reading + 1)) codes) c q)

    onward : (k r : ℕ) → step t s x < length t.accepts →
        run t s reading kept rule (x ∷ drop (place + (reading + 1)) codes) ≡ run t (step t s x) (reading + 1) k r (drop (place + (reading + 1)) codes) →
        Scanning t codes mode place (step t s x) (reading + 1) k r
    onward k r l q =
        record { within = omega (arith, slice_get_within codes (place + reading) x (sym e)); below = l; goes = sym q ∙ ap (run t s reading kept rule) (sym rest) ∙ h.goes }

    -- a step to a state that accepts no rule, and to one that accepts a rule
    pub steps : (next : ℕ) → next ≡ step t s x → (next ≡ 255 → ⊥) → next < length t.accepts → accept t next ≡ 255 → Scanning t codes mode place next (reading + 1) kept rule
    steps next n some l a =
        let P : ℕ → Type 0 = λ z. Scanning t codes mode place z (reading + 1) kept rule in
        subst P (sym n)
        (onward kept rule (subst (λ (z : ℕ). z < length t.accepts) n l)
        (run_step t s reading kept rule x (drop (place + (reading + 1)) codes) c (λ q. some (n ∙ q)) (ap (accept t) (sym n) ∙ a)))

    pub accepts : (next new : ℕ) → next ≡ step t s x → (next ≡ 255 → ⊥) → next < length t.accepts → new ≡ accept t next → (new ≡ 255 → ⊥) →
        Scanning t codes mode place next (reading + 1) (reading + 1) new
    accepts next new n some l a other =
        let P : ℕ → ℕ → Type 0 = λ z w. Scanning t codes mode place z (reading + 1) (reading + 1) w in
        let same : accept t (step t s x) ≡ new = sym (a ∙ ap (accept t) n) in
        subst (λ (z : ℕ). P z new) (sym n)
        (subst (P (step t s x)) same
        (onward (reading + 1) (accept t (step t s x)) (subst (λ (z : ℕ). z < length t.accepts) n l)
        (run_accept t s reading kept rule x (drop (place + (reading + 1)) codes) c (λ q. some (n ∙ q)) (λ q. other (sym same ∙ q)))))

-- a scan goes on over symbols that lead from its state to itself
stays_at : (t : Tables) (codes : List ℕ) (place s n m : ℕ) → Stays t codes s (place + n) (suc m) → (x : ℕ) × (Some x ≡ slice_get codes (place + (n + m))) × (step t s x ≡ s)
stays_at t codes place s n m stays =
    let here = stays m (omega arith) in
    (here.0, here.1 ∙ ap (slice_get codes) (add_assoc place n m), here.2)

-- in a state that accepts no rule, and in one that accepts a rule
pub stays_stepping : (t : Tables) (codes : List ℕ) (mode place s n kept rule m : ℕ) → Scanning t codes mode place s n kept rule → Stays t codes s (place + n) m → (0 < m → closed t s ≡ false) → (s ≡ 255 → ⊥) → accept t s ≡ 255 →
    Scanning t codes mode place s (n + m) kept rule
stays_stepping t codes mode place s n kept rule zero h stays moves some a = subst (λ (z : ℕ). Scanning t codes mode place s z kept rule) (sym (add-zero n)) h
stays_stepping t codes mode place s n kept rule (suc m) h stays moves some a =
    let here = stays_at t codes place s n m stays in
    let before = stays_stepping t codes mode place s n kept rule m h (λ k l. stays k (omega arith)) (λ l. moves (omega arith)) some a in
    subst (λ (z : ℕ). Scanning t codes mode place s z kept rule) (omega arith)
    (steps t codes mode place s (n + m) kept rule before here.0 (moves (omega arith)) here.1 s (sym here.2) some h.below a)

pub stays_accepting : (t : Tables) (codes : List ℕ) (mode place s n rule m : ℕ) → Scanning t codes mode place s n n rule → Stays t codes s (place + n) m → (0 < m → closed t s ≡ false) → (s ≡ 255 → ⊥) → rule ≡ accept t s → (rule ≡ 255 → ⊥) →
    Scanning t codes mode place s (n + m) (n + m) rule
stays_accepting t codes mode place s n rule zero h stays moves some a other = subst (λ (z : ℕ). Scanning t codes mode place s z z rule) (sym (add-zero n)) h
stays_accepting t codes mode place s n rule (suc m) h stays moves some a other =
    let here = stays_at t codes place s n m stays in
    let before = stays_accepting t codes mode place s n rule m h (λ k l. stays k (omega arith)) (λ l. moves (omega arith)) some a other in
    subst (λ (z : ℕ). Scanning t codes mode place s z z rule) (omega arith)
    (accepts t codes mode place s (n + m) (n + m) rule before here.0 (moves (omega arith)) here.1 s rule (sym here.2) some h.below a other)

-- one step at a code, and the symbols behind it that lead to the same state: where that state accepts no rule, and where it accepts one
module _ (t : Tables) (codes : List ℕ) (mode place s n kept rule : ℕ) (h : Scanning t codes mode place s n kept rule) (x : ℕ) (c : closed t s ≡ false) (e : Some x ≡ slice_get codes (place + n))
    (next : ℕ) (is : Some next ≡ present (step t s x)) (low : next < length t.accepts) (m : ℕ) (stays : Stays t codes next (place + (n + 1)) m) (moves : 0 < m → closed t next ≡ false) where
  came : next ≡ step t s x
  came = sym (present_some (step t s x) next (sym is)).0

  named : next ≡ 255 → ⊥
  named q = (present_some (step t s x) next (sym is)).1 (sym came ∙ q)

  pub goes_on : None ≡ present (accept t next) → Scanning t codes mode place next (n + 1 + m) kept rule
  goes_on a =
      let none = present_none (accept t next) (sym a) in
      stays_stepping t codes mode place next (n + 1) kept rule m (steps t codes mode place s n kept rule h x c e next came named low none) stays moves named none

  pub goes_on_with : (new : ℕ) → Some new ≡ present (accept t next) → Scanning t codes mode place next (n + 1 + m) (n + 1 + m) new
  goes_on_with new a =
      let k = present_some (accept t next) new (sym a) in
      let other : new ≡ 255 → ⊥ = λ q. k.1 (k.0 ∙ q) in
      stays_accepting t codes mode place next (n + 1) new m (accepts t codes mode place s n kept rule h x c e next new came named low (sym k.0) other) stays moves named (sym k.0) other

-- what a scan at any place gives
pub is_scanned : (t : Tables) (m : ℕ) (xs : List ℕ) (e : Entry) → 0 < length xs → e ≡ token t m xs → e ≡ scanned t m xs
is_scanned t m [] e h is = absurd (omega arith)
is_scanned t m (x ∷ xs) e h is = is

pub is_scanned_end : (t : Tables) (m : ℕ) (xs : List ℕ) (e : Entry) → length xs ≡ 0 → e ≡ entry 1 0 1 m 0 → e ≡ scanned t m xs
is_scanned_end t m [] e h is = is
is_scanned_end t m (x ∷ xs) e h is = absurd (omega arith)

-- the laws of a token, at what equals it
pub longest_of : (t : Tables) (m : ℕ) (xs : List ℕ) (e : Entry) → 0 < length xs → e ≡ token t m xs → LongestMatch t m xs e
longest_of t m xs e some is = subst (LongestMatch t m xs) (sym is) (longest_match t m xs some)

pub depends_of : (t : Tables) (m : ℕ) (xs : List ℕ) (e : Entry) → e ≡ token t m xs → DependsOnRead t m xs e
depends_of t m xs e is = subst (DependsOnRead t m xs) (sym is) (depends_on_read t m xs)
