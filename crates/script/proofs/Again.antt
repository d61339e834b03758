-- What is written as a field is read as that field.
use Rattle.std.proofs.Common.{◌≡◌, ℕ, suc, ◌+◌, ◌/◌, ◌%◌, ◌^◌, ◌<◌, ◌≤◌, Bool, true, false, cond, ◌&&◌, eqb, ltb, leb, List, [], ◌∷◌, ◌++◌, length, Some, Ok, Err, codes, decimal, Result, sym, refl, ap, ◌∙◌, subst, ap₂, arith}
use Rattle.std.specs.Option.{ok_or}
use Rattle.std.specs.Char.{digit_char}
use Rattle.std.proofs.lemmas.Fmt.{decimal_by_steps}
use Rattle.std.proofs.lemmas.List.{length_push}
use Rattle.std.proofs.lemmas.Bool.{cond-true, cond-false, ne_eqb, and_from, le-leb, lt-ltb}
use Rattle.std.proofs.lemmas.Bool.Decides.{nat_tests}
use Rattle.books.specs.Check.{Plan}
use Rattle.requests.specs.Asked.{Asked, correct, token, line, where_is, time, copy, alike}
use Rattle.script.specs.declared.scripts.StoreKind.{StoreKind}
use Rattle.script.specs.declared.scripts.StoreKind.TheVariants.{Flat, Gap}
use Rattle.script.specs.declared.wrong.Wrong.{Wrong}
use Rattle.script.specs.declared.wrong.Wrong.TheVariants.{Number, TooLarge, OverLimit, Table}
use Rattle.script.specs.Commands.{Instruction, store, opening_text, memory, token_book, line_book, ask, kind_of, store_in, plan_in, one_in, asking, command_of}
use Rattle.script.specs.Fields.{front, onward, field, grown, digits, number_of, onto, pairs, table_of, number_in, size_of, size_in, table_in, text_in, at_end}
use Rattle.script.specs.Laws.{number_out, text_out, hexes, table_out, kind_out, plan_out, request_out, Bytes, SayablePlan, SayableRequest, LinesReadBack}
use Rattle.script.specs.Steps.{on}
use Rattle.script.proofs.Back.{pair_chars, quoted_back}
use Rattle.script.proofs.Words.{table_pairs}

-- a word without a blank, and what is left behind it
abbrev Solid : List ℕ → Type 0
Solid [] = Unit {0}
Solid (b ∷ bs) = (b ≡ 32 → ⊥) × Solid bs

abbrev Ends : List ℕ → Type 0
Ends [] = Unit {0}
Ends (b ∷ bs) = b ≡ 32

front_back : (w t : List ℕ) → Solid w → Ends t → front 32 (w ++ t) ≡ w
front_back [] [] s e = refl
front_back [] (b ∷ t) s e = subst (λ x. front 32 (x ∷ t) ≡ []) (sym e) refl
front_back (b ∷ w) t s e =
    cond-false (eqb b 32) [] (b ∷ front 32 (w ++ t)) (ne_eqb b 32 s.0) ∙ ap (λ xs. b ∷ xs) (front_back w t s.1 e)

onward_back : (w t : List ℕ) → Solid w → Ends t → onward 32 (w ++ t) ≡ t
onward_back [] [] s e = refl
onward_back [] (b ∷ t) s e = subst (λ x. onward 32 (x ∷ t) ≡ x ∷ t) (sym e) refl
onward_back (b ∷ w) t s e = cond-false (eqb b 32) (b ∷ w ++ t) (onward 32 (w ++ t)) (ne_eqb b 32 s.0) ∙ onward_back w t s.1 e

field_back : {X : Type 0} (rule : List ℕ → Result X Wrong) (w t : List ℕ) (x : X) → Solid w → Ends t → rule w ≡ Ok x → field rule (32 ∷ w ++ t) ≡ Ok (x, t)
field_back rule w t x s e r =
    ap₂ (λ u v. on (rule u) (λ y. Ok (y, v))) (front_back w t s e) (onward_back w t s e) ∙ ap (λ d. on d (λ y. Ok (y, t))) r

-- numbers
on_cond : {X Y : Type 0} (b : Bool) (x y : Result X Wrong) (f : X → Result Y Wrong) → on (cond b x y) f ≡ cond b (on x f) (on y f)
on_cond true x y f = refl
on_cond false x y f = refl

digits_push : (m : ℕ) (ds : List ℕ) (b : ℕ) → digits m (ds ++ (b ∷ [])) ≡ on (digits m ds) (λ k. digits k (b ∷ []))
digits_push m [] b = refl
digits_push m (d ∷ ds) b =
    let p = leb 48 d && leb d 57 in
    let q = ltb (grown m d) (2 ^ 64) in
    let f : ℕ → Result ℕ Wrong = λ k. digits k (b ∷ []) in
    ap (λ x. cond p (cond q x (Err TooLarge)) (Err Number)) (digits_push (grown m d) ds b)
    ∙ sym (
    on_cond p (cond q (digits (grown m d) ds) (Err TooLarge)) (Err Number) f
    ∙ ap (λ x. cond p x (Err Number)) (on_cond q (digits (grown m d) ds) (Err TooLarge) f)
    )

digit_last : (k b n : ℕ) → 48 ≤ b → b ≤ 57 → grown k b ≡ n → n < 2 ^ 64 → digits k (b ∷ []) ≡ Ok n
digit_last k b n l u e h =
    let small : grown k b < 2 ^ 64 = omega arith in
    cond-true (leb 48 b && leb b 57) (cond (ltb (grown k b) (2 ^ 64)) (Ok (grown k b)) (Err TooLarge)) (Err Number) (and_from (leb 48 b) (leb b 57) (le-leb 48 b l) (le-leb b 57 u))
    ∙ cond-true (ltb (grown k b) (2 ^ 64)) (Ok (grown k b)) (Err TooLarge) (lt-ltb (grown k b) (2 ^ 64) small)
    ∙ ap Ok e

solid_push : (w : List ℕ) (b : ℕ) → Solid w → (b ≡ 32 → ⊥) → Solid (w ++ (b ∷ []))
solid_push [] b s n = (n, tt)
solid_push (c ∷ w) b s n = (s.0, solid_push w b s.1 n)

record Spells (n : ℕ) (ds : List ℕ) : Type 0 where
  value : digits 0 ds ≡ Ok n
  solid : Solid ds
  some : 0 < length ds

spells : (n : ℕ) → n < 2 ^ 64 → Spells n (decimal n)
spells n h =
    decimal_by_steps (λ n ds. n < 2 ^ 64 → Spells n ds)
    (λ n small h. record { value = digit_last 0 (48 + n) n (omega arith) (omega arith) (omega arith) h; solid = (λ e. omega (arith, e), tt); some = omega arith })
    (λ n ds large was h.
    let before = was (omega arith) in
    let last : grown (n / 10) (48 + n % 10) ≡ n = omega arith in
    record {
      value = digits_push 0 ds (48 + n % 10) ∙ ap (λ d. on d (λ k. digits k ((48 + n % 10) ∷ []))) before.value ∙ digit_last (n / 10) (48 + n % 10) n (omega arith) (omega arith) last h;
      solid = solid_push ds (48 + n % 10) before.solid (λ e. omega (arith, e));
      some = omega (arith, length_push ds (48 + n % 10));
    })
    n h h

number_some : (ds : List ℕ) → 0 < length ds → number_of ds ≡ digits 0 ds
number_some [] h = absurd (omega (arith, h))
number_some (b ∷ ds) h = refl

number_back : (n : ℕ) (t : List ℕ) → n < 2 ^ 64 → Ends t → number_in (number_out n t) ≡ Ok (n, t)
number_back n t h e =
    let s = spells n h in
    field_back number_of (decimal n) t n s.solid e (number_some (decimal n) s.some ∙ s.value)

size_back : (n : ℕ) (t : List ℕ) → n ≤ 1000000 → Ends t → size_in (number_out n t) ≡ Ok (n, t)
size_back n t h e =
    ap (λ d. on d (λ a. on (size_of a.0) (λ m. Ok (m, a.1)))) (number_back n t (omega arith) e)
    ∙ ap (λ d. on d (λ m. Ok (m, t))) (cond-true (leb n 1000000) (Ok n) (Err OverLimit) (le-leb n 1000000 h))

-- tables
hex_solid : (d : ℕ) → d < 16 → digit_char d ≡ 32 → ⊥
hex_solid d h = grind (arith, nat_tests)

hexes_solid : (t : List ℕ) → Bytes t → Solid (hexes t)
hexes_solid [] h = tt
hexes_solid (b ∷ t) h =
    let small = h 0 in
    (hex_solid (b / 16) (omega arith), (hex_solid (b % 16) (omega arith), hexes_solid t (λ k. h (suc k))))

pairs_back : (t : List ℕ) → Bytes t → pairs (hexes t) ≡ Some t
pairs_back [] h = refl
pairs_back (b ∷ t) h = ap₂ onto (pair_chars b (h 0)) (pairs_back t (λ k. h (suc k)))

table_back : (x t : List ℕ) → Bytes x → Ends t → table_in (table_out x t) ≡ Ok (x, t)
table_back [] t h e = field_back table_of (codes "-") t [] ((λ z. omega (arith, z)), tt) e refl
table_back (b ∷ x) t h e =
    field_back table_of (hexes (b ∷ x)) t (b ∷ x) (hexes_solid (b ∷ x) h) e
    (table_pairs (hexes (b ∷ x)) (λ z. omega (arith, z)) (λ z. omega (arith, ap length z)) ∙ ap (λ o. ok_or o Table) (pairs_back (b ∷ x) h))

text_back : (x t : List ℕ) → Bytes x → text_in (text_out x t) ≡ Ok (x, t)
text_back x t h = quoted_back x t h

table_ends : (x t : List ℕ) → Ends (table_out x t)
table_ends [] t = refl
table_ends (b ∷ x) t = refl

-- one step after another
next : {X Y : Type 0} (d : Result X Wrong) (x : X) (f : X → Result Y Wrong) (y : Result Y Wrong) → d ≡ Ok x → f x ≡ y → on d f ≡ y
next d x f y e r = ap (λ d. on d f) e ∙ r

plan_back : (p : Plan) → SayablePlan p → plan_in (plan_out p []) ≡ Ok (p, [])
plan_back p h =
    let t = p.tables in
    let starts = table_out t.starts [] in
    let rules = table_out t.rules starts in
    let accepts = table_out t.accepts rules in
    let steps = table_out t.steps accepts in
    let classes = table_out t.classes steps in
    next _ _ _ _ (number_back p.states _ h.states refl)
    (next _ _ _ _ (number_back t.width _ h.width refl)
    (next _ _ _ _ (number_back p.modes _ h.modes refl)
    (next _ _ _ _ (number_back p.rules classes h.rules (table_ends t.classes steps))
    (next _ _ _ _ (table_back t.classes steps h.class_table (table_ends t.steps accepts))
    (next _ _ _ _ (table_back t.steps accepts h.step_table (table_ends t.accepts rules))
    (next _ _ _ _ (table_back t.accepts rules h.accept_table (table_ends t.rules starts))
    (next _ _ _ _ (table_back t.rules starts h.rule_table (table_ends t.starts []))
    (next _ _ _ _ (table_back t.starts [] h.start_table tt) refl))))))))

one_back : (f : ℕ → Asked) (n : ℕ) → n < 2 ^ 64 → one_in f (number_out n []) ≡ Ok (f n, [])
one_back f n h = next _ _ _ _ (number_back n [] h tt) refl

kind_back : (k : StoreKind) (t : List ℕ) → Ends t → field kind_of (kind_out k t) ≡ Ok (k, t)
kind_back Flat t e = field_back kind_of (codes "flat") t Flat ((λ z. omega (arith, z)), ((λ z. omega (arith, z)), ((λ z. omega (arith, z)), ((λ z. omega (arith, z)), tt)))) e refl
kind_back Gap t e = field_back kind_of (codes "gap") t Gap ((λ z. omega (arith, z)), ((λ z. omega (arith, z)), ((λ z. omega (arith, z)), tt))) e refl

store_back : (k : StoreKind) (n : ℕ) → n ≤ 1000000 → store_in (kind_out k (number_out n [])) ≡ Ok (store k n, [])
store_back k n h = next _ _ _ _ (kind_back k (number_out n []) refl) (next _ _ _ _ (size_back n [] h tt) refl)

-- a whole line
whole : (d : Result (Instruction × List ℕ) Wrong) (c : Instruction) → d ≡ Ok (c, []) → on d (λ a. on (at_end a.1) (λ _. Ok a.0)) ≡ Ok c
whole d c e = ap (λ d. on d (λ a. on (at_end a.1) (λ _. Ok a.0))) e

asked_whole : (d : Result (Asked × List ℕ) Wrong) (r : Asked) → d ≡ Ok (r, []) → asking d ≡ Ok (ask r, [])
asked_whole d r e = ap asking e

request_back : (r : Asked) → SayableRequest r → command_of (request_out r) ≡ Ok (ask r)
request_back (correct a c i) h =
    whole _ _ (asked_whole _ _ (
    next _ _ _ _ (number_back a _ h.0 refl) (next _ _ _ _ (number_back c _ h.1 refl) (next _ _ _ _ (text_back i [] h.2) refl))
    ))
request_back (token n) h = whole _ _ (asked_whole _ _ (one_back token n h))
request_back (line n) h = whole _ _ (asked_whole _ _ (one_back line n h))
request_back (where_is p) h = whole _ _ (asked_whole _ _ (one_back where_is p h))
request_back (time n) h = whole _ _ (asked_whole _ _ (one_back time n h))
request_back (copy n b) h =
    whole _ _ (asked_whole _ _ (
    next _ _ _ _ (number_back n _ h.0 refl) (next _ _ _ _ (size_back (length b) [] h.1 tt) (ap (λ x. Ok (copy n x, [])) (sym h.2)))
    ))
request_back (alike a b) h =
    whole _ _ (asked_whole _ _ (next _ _ _ _ (number_back a _ h.0 refl) (next _ _ _ _ (number_back b [] h.1 tt) refl)))

pub lines_read_back : LinesReadBack
lines_read_back (store Flat n) h = whole (store_in (kind_out Flat (number_out n []))) (store Flat n) (store_back Flat n h)
lines_read_back (store Gap n) h = whole (store_in (kind_out Gap (number_out n []))) (store Gap n) (store_back Gap n h)
lines_read_back (opening_text t) h = whole _ _ (next _ _ _ _ (text_back t [] h) refl)
lines_read_back (memory t l) h = whole _ _ (next _ _ _ _ (size_back t _ h.0 refl) (next _ _ _ _ (size_back l [] h.1 tt) refl))
lines_read_back (token_book p) h = whole _ _ (next _ _ _ _ (plan_back p h) refl)
lines_read_back (line_book p) h = whole _ _ (next _ _ _ _ (plan_back p h) refl)
lines_read_back (ask r) h = request_back r h
