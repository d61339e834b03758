-- A script's capacity is at most the limit.
use Rattle.std.proofs.Common.{◌≡◌, ℕ, ◌+◌, ◌≤◌, Bool, true, false, eqb, leb, List, [], ◌∷◌, ◌++◌, Some, None, Ok, Err, Option, Result, unwrap_or, sym, refl, ◌∙◌, subst, inl, inr, arith}
use Rattle.std.specs.Option.{ok_or}
use Rattle.std.proofs.lemmas.Bool.{cases_Bool, cond-true, cond-false, leb-true}
use Rattle.requests.specs.Asked.{token, line, where_is, time}
use Rattle.script.specs.declared.names.Name.{Name}
use Rattle.script.specs.declared.names.Name.TheVariants as name
use Rattle.script.specs.declared.scripts.StoreKind.{StoreKind}
use Rattle.script.specs.declared.scripts.StoreKind.TheVariants.{Gap}
use Rattle.script.specs.declared.wrong.Wrong.{Wrong}
use Rattle.script.specs.declared.wrong.Wrong.TheVariants.{OverLimit, Command, Twice, Late}
use Rattle.script.specs.Commands as says
use Rattle.script.specs.Commands.{Instruction, plan_in, correct_in, one_in, copy_in, alike_in, fields_in, command_of}
use Rattle.script.specs.Fields.{front, onward, field, number_in, size_of, size_in, text_in, at_end}
use Rattle.script.specs.Names.{name_of}
use Rattle.script.specs.Scripts.{lines_of, Heard, silence, filled, has_asked, taken_in, line_in, at_line, told, Written, store_of, script_of, written_out, meaning, with_store, with_text, with_memory, with_token_book, with_line_book, with_requests}
use Rattle.script.specs.Steps.{on}

never : {X Y Z : Type 0} (y : Y) (x : X) → ◌≡◌ {A = Result X Y} (Err y) (Ok x) → Z
never y x e = let z : ◌≡◌ {A = ℕ} 0 1 = cc in absurd (omega arith)

same : {X Y : Type 0} (x z : X) → ◌≡◌ {A = Result X Y} (Ok x) (Ok z) → x ≡ z
same x z e = cc

-- where both steps were right
on_ok : {X Y : Type 0} (d : Result X Wrong) (f : X → Result Y Wrong) (y : Y) → on d f ≡ Ok y → (x : X) × (d ≡ Ok x) × (f x ≡ Ok y)
on_ok (Ok x) f y e = (x, refl, e)
on_ok (Err w) f y e = never w y e

size_of_small : (n m : ℕ) → size_of n ≡ Ok m → m ≤ 1000000
size_of_small n m e =
    elim (cases_Bool (leb n 1000000)) [
      | inl t ↦ subst (λ k. k ≤ 1000000) (same n m (sym (cond-true (leb n 1000000) (Ok n) (Err OverLimit) t) ∙ e)) (leb-true n 1000000 t)
      | inr f ↦ never OverLimit m (sym (cond-false (leb n 1000000) (Ok n) (Err OverLimit) f) ∙ e)
    ]

size_small : (s : List ℕ) (a : ℕ × List ℕ) → size_in s ≡ Ok a → a.0 ≤ 1000000
size_small s a e =
    let p = on_ok (number_in s) (λ b. on (size_of b.0) (λ n. Ok (n, b.1))) a e in
    let q = on_ok (size_of p.0.0) (λ n. Ok (n, p.0.1)) a p.2 in
    subst (λ (b : ℕ × List ℕ). b.0 ≤ 1000000) (same (q.0, p.0.1) a q.2) (size_of_small p.0.0 q.0 q.1)

abbrev Small : Instruction → Type 0
Small (says.store k n) = n ≤ 1000000
Small (says.opening_text t) = Unit {0}
Small (says.memory t l) = Unit {0}
Small (says.token_book p) = Unit {0}
Small (says.line_book p) = Unit {0}
Small (says.ask r) = Unit {0}

-- a command made of what was read
made_small : {X : Type 0} (d : Result (X × List ℕ) Wrong) (f : X → Instruction) (c : Instruction × List ℕ) → ((x : X × List ℕ) → d ≡ Ok x → Small (f x.0)) →
    on d (λ x. Ok (f x.0, x.1)) ≡ Ok c → Small c.0
made_small d f c small e =
    let p = on_ok d (λ x. Ok (f x.0, x.1)) c e in
    subst (λ (b : Instruction × List ℕ). Small b.0) (same (f p.0.0, p.0.1) c p.2) (small p.0 p.1)

fields_small : (n : Name) (s : List ℕ) (c : Instruction × List ℕ) → fields_in n s ≡ Ok c → Small c.0
fields_small name.Store s c e =
    let p = on_ok (field says.kind_of s) (λ k. on (size_in k.1) (λ n. Ok (says.store k.0 n.0, n.1))) c e in
    made_small (size_in p.0.1) (λ n. says.store p.0.0 n) c (λ n d. size_small p.0.1 n d) p.2
fields_small name.Text s c e = made_small (text_in s) (λ t. says.opening_text t) c (λ _ _. tt) e
fields_small name.Memory s c e =
    let p = on_ok (size_in s) (λ t. on (size_in t.1) (λ l. Ok (says.memory t.0 l.0, l.1))) c e in
    made_small (size_in p.0.1) (λ l. says.memory p.0.0 l) c (λ _ _. tt) p.2
fields_small name.TokenBook s c e = made_small (plan_in s) (λ p. says.token_book p) c (λ _ _. tt) e
fields_small name.LineBook s c e = made_small (plan_in s) (λ p. says.line_book p) c (λ _ _. tt) e
fields_small name.Correct s c e = made_small (correct_in s) (λ r. says.ask r) c (λ _ _. tt) e
fields_small name.Token s c e = made_small (one_in token s) (λ r. says.ask r) c (λ _ _. tt) e
fields_small name.Line s c e = made_small (one_in line s) (λ r. says.ask r) c (λ _ _. tt) e
fields_small name.Where s c e = made_small (one_in where_is s) (λ r. says.ask r) c (λ _ _. tt) e
fields_small name.Time s c e = made_small (one_in time s) (λ r. says.ask r) c (λ _ _. tt) e
fields_small name.Copy s c e = made_small (copy_in s) (λ r. says.ask r) c (λ _ _. tt) e
fields_small name.Alike s c e = made_small (alike_in s) (λ r. says.ask r) c (λ _ _. tt) e

command_small : (l : List ℕ) (c : Instruction) → command_of l ≡ Ok c → Small c
command_small l c e =
    let p = on_ok (ok_or (name_of (front 32 l)) Command) (λ n. on (fields_in n (onward 32 l)) (λ b. on (at_end b.1) (λ _. Ok b.0))) c e in
    let q = on_ok (fields_in p.0 (onward 32 l)) (λ b. on (at_end b.1) (λ _. Ok b.0)) c p.2 in
    let r = on_ok (at_end q.0.1) (λ _. Ok q.0.0) c q.2 in
    subst Small (same q.0.0 c r.2) (fields_small p.0 (onward 32 l) q.0 q.1)

abbrev pub Within : Heard → Type 0
Within h = (store_of h).1 ≤ 1000000

abbrev Below : Option (StoreKind × ℕ) → Type 0
Below o = (unwrap_or o (Gap, 4096)).1 ≤ 1000000

-- what is heard of other things leaves the store as it was
kept : {X : Type 0} (d : Result X Wrong) (h : Heard) (f : X → Heard) (k : Heard) → ((x : X) → (f x).store ≡ h.store) → on d (λ x. Ok (f x)) ≡ Ok k → Within h → Within k
kept d h f k same_Store e w =
    let p = on_ok d (λ x. Ok (f x)) k e in
    subst Within (same (f p.0) k p.2) (subst Below (sym (same_Store p.0)) w)

filled_with : {X : Type 0} (l : Bool) (o p : Option X) (x : X) → filled l o x ≡ Ok p → p ≡ Some x
filled_with true o p x e = never Late p e
filled_with false None p x e = sym (same (Some x) p e)
filled_with false (Some y) p x e = never Twice p e

taken_within : (h k : Heard) (c : Instruction) → Small c → taken_in h c ≡ Ok k → Within h → Within k
taken_within h k (says.store s n) small e w =
    let p = on_ok (filled (has_asked h) h.store (s, n)) (λ o. Ok (with_store h o)) k e in
    subst Within (same (with_store h p.0) k p.2) (subst Below (sym (filled_with (has_asked h) h.store p.0 (s, n) p.1)) small)
taken_within h k (says.opening_text t) small e w = kept (filled (has_asked h) h.text t) h (λ o. with_text h o) k (λ _. refl) e w
taken_within h k (says.memory t l) small e w = kept (filled (has_asked h) h.memory (t, l)) h (λ o. with_memory h o) k (λ _. refl) e w
taken_within h k (says.token_book p) small e w = kept (filled (has_asked h) h.token_book p) h (λ o. with_token_book h o) k (λ _. refl) e w
taken_within h k (says.line_book p) small e w = kept (filled (has_asked h) h.line_book p) h (λ o. with_line_book h o) k (λ _. refl) e w
taken_within h k (says.ask r) small e w = subst Within (same (with_requests h (h.requests ++ (r ∷ []))) k e) w

pub line_within : (h k : Heard) (l : List ℕ) → line_in h l ≡ Ok k → Within h → Within k
line_within h k [] e w = subst Within (same h k e) w
line_within h k (b ∷ bs) e w =
    elim (cases_Bool (eqb b 35)) [
      | inl t ↦ subst Within (same h k (sym (cond-true (eqb b 35) (Ok h) (on (command_of (b ∷ bs)) (λ c. taken_in h c)) t) ∙ e)) w
      | inr f ↦
          let p = on_ok (command_of (b ∷ bs)) (λ c. taken_in h c) k (sym (cond-false (eqb b 35) (Ok h) (on (command_of (b ∷ bs)) (λ c. taken_in h c)) f) ∙ e) in
          taken_within h k p.0 (command_small (b ∷ bs) p.0 p.1) p.2 w
    ]

at_line_ok : (n : ℕ) (d : Result Heard Wrong) (f : Heard → Result Heard (ℕ × Wrong)) (k : Heard) → at_line n d f ≡ Ok k → (h : Heard) × (d ≡ Ok h) × (f h ≡ Ok k)
at_line_ok n (Ok h) f k e = (h, refl, e)
at_line_ok n (Err w) f k e = never (n, w) k e

pub told_within : (n : ℕ) (h k : Heard) (ls : List (List ℕ)) → told n h ls ≡ Ok k → Within h → Within k
told_within n h k [] e w = subst Within (same h k e) w
told_within n h k (l ∷ ls) e w =
    let p = at_line_ok n (line_in h l) (λ j. told (n + 1) j ls) k e in
    told_within (n + 1) p.0 k ls p.2 (line_within h p.0 l p.1 w)

written_small : (d : Result Heard (ℕ × Wrong)) (w : Written) → ((h : Heard) → d ≡ Ok h → Within h) → written_out d ≡ Ok w → w.capacity ≤ 1000000
written_small (Ok h) w within e = subst (λ (x : Written). x.capacity ≤ 1000000) (same (script_of h) w e) (within h refl)
written_small (Err x) w within e = never x w e

-- so is that of the script that bytes mean
pub capacity_within : (bs : List ℕ) (w : Written) → meaning bs ≡ Ok w → w.capacity ≤ 1000000
capacity_within bs w e = written_small (told 1 silence (lines_of bs)) w (λ h d. told_within 1 silence h (lines_of bs) d (omega arith)) e
