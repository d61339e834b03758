-- A script that is written out is read as that script.
use Rattle.std.proofs.Common.{◌≡◌, ℕ, suc, ◌+◌, ◌/◌, ◌%◌, ◌^◌, ◌<◌, Bool, true, not, ◌&&◌, eqb, leb, List, [], ◌∷◌, ◌++◌, map, length, Some, None, Ok, decimal, Option, sym, refl, ap, ◌∙◌, append_assoc, arith}
use Rattle.std.specs.List.{flat_map, AllByRecursion}
use Rattle.std.specs.Char.{digit_char}
use Rattle.std.proofs.lemmas.Fmt.{decimal_by_steps}
use Rattle.std.proofs.lemmas.List.{append-nil}
use Rattle.std.proofs.lemmas.Bool.{cond-false, cond_both, ne_eqb, and_parts, and_from, not-true, not_from_false}
use Rattle.std.proofs.lemmas.Bool.Decides.{nat_tests}
use Rattle.books.specs.Check.{Plan}
use Rattle.requests.specs.Asked.{Asked, correct, token, line, where_is, time, copy, alike}
use Rattle.script.specs.declared.scripts.StoreKind.{StoreKind}
use Rattle.script.specs.declared.scripts.StoreKind.TheVariants.{Flat, Gap}
use Rattle.script.specs.Commands.{Instruction, store, opening_text, memory, token_book, line_book, ask}
use Rattle.script.specs.Laws.{number_out, text_out, hexes, table_out, plan_out, request_out, line_of, Bytes, SayablePlan, SayableRequest, Sayable, book_line, commands_of, ScriptsReadBack}
use Rattle.script.specs.Scripts.{onto_first, lines_of, Heard, silence, taken_in, line_in, at_line, told, written_out, with_store, with_text, with_requests}
use Rattle.script.specs.Shown.{shown, escaped}
use Rattle.script.specs.Steps.{on}
use Rattle.script.proofs.Again.{lines_read_back}
use Rattle.script.proofs.Back.{shown_cases}

-- bytes without a newline
abbrev lacks : List ℕ → Bool
lacks [] = true
lacks (b ∷ bs) = not (eqb b 10) && lacks bs

lacks_++ : (a b : List ℕ) → lacks a ≡ true → lacks b ≡ true → lacks (a ++ b) ≡ true
lacks_++ [] b p q = q
lacks_++ (x ∷ a) b p q =
    let both = and_parts (not (eqb x 10)) (lacks a) p in
    and_from (not (eqb x 10)) (lacks (a ++ b)) both.0 (lacks_++ a b both.1 q)

lacks_one : (b : ℕ) (bs : List ℕ) → (b ≡ 10 → ⊥) → lacks bs ≡ true → lacks (b ∷ bs) ≡ true
lacks_one b bs n h = and_from (not (eqb b 10)) (lacks bs) (not_from_false (eqb b 10) (ne_eqb b 10 n)) h

lacks_decimal : (n : ℕ) → n < 2 ^ 64 → lacks (decimal n) ≡ true
lacks_decimal =
    decimal_by_steps (λ n ds. lacks ds ≡ true)
    (λ n small. lacks_one (48 + n) [] (λ e. omega (arith, e)) refl)
    (λ n ds large was. lacks_++ ds ((48 + n % 10) ∷ []) was (lacks_one (48 + n % 10) [] (λ e. omega (arith, e)) refl))

hex_lacks : (d : ℕ) → d < 16 → digit_char d ≡ 10 → ⊥
hex_lacks d h = grind (arith, nat_tests)

lacks_pair : (b : ℕ) (bs : List ℕ) → b < 256 → lacks bs ≡ true → lacks (digit_char (b / 16) ∷ digit_char (b % 16) ∷ bs) ≡ true
lacks_pair b bs h k =
    lacks_one (digit_char (b / 16)) (digit_char (b % 16) ∷ bs) (hex_lacks (b / 16) (omega arith)) (lacks_one (digit_char (b % 16)) bs (hex_lacks (b % 16) (omega arith)) k)

lacks_hexes : (t : List ℕ) → Bytes t → lacks (hexes t) ≡ true
lacks_hexes [] h = refl
lacks_hexes (b ∷ t) h = lacks_pair b (hexes t) (h 0) (lacks_hexes t (λ k. h (suc k)))

lacks_shown : (b : ℕ) → b < 256 → lacks (shown b) ≡ true
lacks_shown b h =
    shown_cases (λ x xs. x < 256 → lacks xs ≡ true) (λ _. refl) (λ _. refl) (λ _. refl) (λ _. refl) (λ _. refl)
    (λ x _ _ n small.
    cond_both (leb 32 x && leb x 126) (x ∷ []) (92 ∷ 120 ∷ digit_char (x / 16) ∷ digit_char (x % 16) ∷ []) (λ xs. lacks xs ≡ true)
    (λ _. lacks_one x [] n refl) (λ _. lacks_pair x [] small refl))
    b h

lacks_escaped : (t : List ℕ) → Bytes t → lacks (escaped t) ≡ true
lacks_escaped [] h = refl
lacks_escaped (b ∷ t) h = lacks_++ (shown b) (escaped t) (lacks_shown b (h 0)) (lacks_escaped t (λ k. h (suc k)))

lacks_number : (n : ℕ) (t : List ℕ) → n < 2 ^ 64 → lacks t ≡ true → lacks (number_out n t) ≡ true
lacks_number n t h k = lacks_++ (decimal n) t (lacks_decimal n h) k

lacks_text : (x t : List ℕ) → Bytes x → lacks t ≡ true → lacks (text_out x t) ≡ true
lacks_text x t h k = lacks_++ (escaped x) (34 ∷ t) (lacks_escaped x h) k

lacks_table : (x t : List ℕ) → Bytes x → lacks t ≡ true → lacks (table_out x t) ≡ true
lacks_table [] t h k = k
lacks_table (b ∷ x) t h k = lacks_++ (hexes (b ∷ x)) t (lacks_hexes (b ∷ x) h) k

lacks_plan : (p : Plan) → SayablePlan p → lacks (plan_out p []) ≡ true
lacks_plan p h =
    let t = p.tables in
    lacks_number p.states _ h.states (lacks_number t.width _ h.width (lacks_number p.modes _ h.modes (lacks_number p.rules _ h.rules
    (lacks_table t.classes _ h.class_table (lacks_table t.steps _ h.step_table (lacks_table t.accepts _ h.accept_table
    (lacks_table t.rules _ h.rule_table (lacks_table t.starts [] h.start_table refl))))))))

lacks_request : (r : Asked) → SayableRequest r → lacks (request_out r) ≡ true
lacks_request (correct a c i) h = lacks_number a _ h.0 (lacks_number c _ h.1 (lacks_text i [] h.2 refl))
lacks_request (token n) h = lacks_number n [] h refl
lacks_request (line n) h = lacks_number n [] h refl
lacks_request (where_is p) h = lacks_number p [] h refl
lacks_request (time n) h = lacks_number n [] h refl
lacks_request (copy n b) h = lacks_number n _ h.0 (lacks_number (length b) [] (omega (arith, h.1)) refl)
lacks_request (alike a b) h = lacks_number a _ h.0 (lacks_number b [] h.1 refl)

lacks_line : (c : Instruction) → Sayable c → lacks (line_of c) ≡ true
lacks_line (store Flat n) h = lacks_number n [] (omega (arith, h)) refl
lacks_line (store Gap n) h = lacks_number n [] (omega (arith, h)) refl
lacks_line (opening_text t) h = lacks_text t [] h refl
lacks_line (memory t l) h = lacks_number t _ (omega (arith, h.0)) (lacks_number l [] (omega (arith, h.1)) refl)
lacks_line (token_book p) h = lacks_plan p h
lacks_line (line_book p) h = lacks_plan p h
lacks_line (ask r) h = lacks_request r h

-- the lines of what was written line by line
line_first : (l rest : List ℕ) → lacks l ≡ true → lines_of (l ++ (10 ∷ rest)) ≡ l ∷ lines_of rest
line_first [] rest h = refl
line_first (b ∷ l) rest h =
    let both = and_parts (not (eqb b 10)) (lacks l) h in
    cond-false (eqb b 10) ([] ∷ lines_of (l ++ (10 ∷ rest))) (onto_first b (lines_of (l ++ (10 ∷ rest)))) (not-true (eqb b 10) both.0)
    ∙ ap (onto_first b) (line_first l rest both.1)

lines_back : (cs : List Instruction) → AllByRecursion Sayable cs → lines_of (flat_map (λ c. line_of c ++ (10 ∷ [])) cs) ≡ map line_of cs
lines_back [] h = refl
lines_back (c ∷ cs) h =
    let rest = flat_map (λ c. line_of c ++ (10 ∷ [])) cs in
    ap lines_of (append_assoc (line_of c) (10 ∷ []) rest) ∙ line_first (line_of c) rest (lacks_line c h.0) ∙ ap (λ ls. line_of c ∷ ls) (lines_back cs h.1)

-- a line that is a command is taken in as that command
request_line : (h : Heard) (r : Asked) → SayableRequest r → line_in h (request_out r) ≡ taken_in h (ask r)
request_line h (correct a c i) s = ap (λ d. on d (λ c. taken_in h c)) (lines_read_back (ask (correct a c i)) s)
request_line h (token n) s = ap (λ d. on d (λ c. taken_in h c)) (lines_read_back (ask (token n)) s)
request_line h (line n) s = ap (λ d. on d (λ c. taken_in h c)) (lines_read_back (ask (line n)) s)
request_line h (where_is p) s = ap (λ d. on d (λ c. taken_in h c)) (lines_read_back (ask (where_is p)) s)
request_line h (time n) s = ap (λ d. on d (λ c. taken_in h c)) (lines_read_back (ask (time n)) s)
request_line h (copy n b) s = ap (λ d. on d (λ c. taken_in h c)) (lines_read_back (ask (copy n b)) s)
request_line h (alike a b) s = ap (λ d. on d (λ c. taken_in h c)) (lines_read_back (ask (alike a b)) s)

command_line : (h : Heard) (c : Instruction) → Sayable c → line_in h (line_of c) ≡ taken_in h c
command_line h (store k n) s = ap (λ d. on d (λ c. taken_in h c)) (lines_read_back (store k n) s)
command_line h (opening_text t) s = ap (λ d. on d (λ c. taken_in h c)) (lines_read_back (opening_text t) s)
command_line h (memory t l) s = ap (λ d. on d (λ c. taken_in h c)) (lines_read_back (memory t l) s)
command_line h (token_book p) s = ap (λ d. on d (λ c. taken_in h c)) (lines_read_back (token_book p) s)
command_line h (line_book p) s = ap (λ d. on d (λ c. taken_in h c)) (lines_read_back (line_book p) s)
command_line h (ask r) s = request_line h r s

told_on : (n : ℕ) (h k : Heard) (c : Instruction) (ls : List (List ℕ)) → Sayable c → taken_in h c ≡ Ok k → told n h (line_of c ∷ ls) ≡ told (n + 1) k ls
told_on n h k c ls s e = ap (λ d. at_line n d (λ k. told (n + 1) k ls)) (command_line h c s ∙ e)

told_requests : (n : ℕ) (h : Heard) (rs : List Asked) → AllByRecursion Sayable (map ask rs) → told n h (map line_of (map ask rs)) ≡ Ok (with_requests h (h.requests ++ rs))
told_requests n h [] s = ap (λ rs. Ok (with_requests h rs)) (sym (append-nil h.requests))
told_requests n h (r ∷ rs) s =
    told_on n h (with_requests h (h.requests ++ (r ∷ []))) (ask r) (map line_of (map ask rs)) s.0 refl
    ∙ told_requests (n + 1) (with_requests h (h.requests ++ (r ∷ []))) rs s.1
    ∙ ap (λ xs. Ok (with_requests h xs)) (append_assoc h.requests (r ∷ []) rs)

-- the set-up in its order, with the books that there are
abbrev set_up : StoreKind → ℕ → List ℕ → ℕ → ℕ → Option Plan → Option Plan → Heard
set_up k n t a b tb lb = record { store = Some (k, n); text = Some t; memory = Some (a, b); token_book = tb; line_book = lb; requests = [] }

module _ (k : StoreKind) (n : ℕ) (t : List ℕ) (a b : ℕ) where
  first_three : (ls : List (List ℕ)) → Sayable (store k n) → Sayable (opening_text t) → Sayable (memory a b) →
      told 1 silence (line_of (store k n) ∷ line_of (opening_text t) ∷ line_of (memory a b) ∷ ls) ≡ told 4 (set_up k n t a b None None) ls
  first_three ls p q r =
      told_on 1 silence (with_store silence (Some (k, n))) (store k n) (line_of (opening_text t) ∷ line_of (memory a b) ∷ ls) p refl
      ∙ told_on 2 (with_store silence (Some (k, n))) (with_text (with_store silence (Some (k, n))) (Some t)) (opening_text t) (line_of (memory a b) ∷ ls) q refl
      ∙ told_on 3 (with_text (with_store silence (Some (k, n))) (Some t)) (set_up k n t a b None None) (memory a b) ls r refl

  all_told : (tb lb : Option Plan) (rs : List Asked) →
      AllByRecursion Sayable (store k n ∷ opening_text t ∷ memory a b ∷ (book_line token_book tb ++ (book_line line_book lb ++ map ask rs))) →
      told 1 silence (map line_of (store k n ∷ opening_text t ∷ memory a b ∷ (book_line token_book tb ++ (book_line line_book lb ++ map ask rs))))
      ≡ Ok (with_requests (set_up k n t a b tb lb) rs)
  all_told None None rs s =
      let ls = map line_of (map ask rs) in
      first_three ls s.0 s.1.0 s.1.1.0 ∙ told_requests 4 (set_up k n t a b None None) rs s.1.1.1
  all_told None (Some l) rs s =
      let ls = map line_of (map ask rs) in
      first_three (line_of (line_book l) ∷ ls) s.0 s.1.0 s.1.1.0
      ∙ told_on 4 (set_up k n t a b None None) (set_up k n t a b None (Some l)) (line_book l) ls s.1.1.1.0 refl
      ∙ told_requests 5 (set_up k n t a b None (Some l)) rs s.1.1.1.1
  all_told (Some p) None rs s =
      let ls = map line_of (map ask rs) in
      first_three (line_of (token_book p) ∷ ls) s.0 s.1.0 s.1.1.0
      ∙ told_on 4 (set_up k n t a b None None) (set_up k n t a b (Some p) None) (token_book p) ls s.1.1.1.0 refl
      ∙ told_requests 5 (set_up k n t a b (Some p) None) rs s.1.1.1.1
  all_told (Some p) (Some l) rs s =
      let ls = map line_of (map ask rs) in
      first_three (line_of (token_book p) ∷ line_of (line_book l) ∷ ls) s.0 s.1.0 s.1.1.0
      ∙ told_on 4 (set_up k n t a b None None) (set_up k n t a b (Some p) None) (token_book p) (line_of (line_book l) ∷ ls) s.1.1.1.0 refl
      ∙ told_on 5 (set_up k n t a b (Some p) None) (set_up k n t a b (Some p) (Some l)) (line_book l) ls s.1.1.1.1.0 refl
      ∙ told_requests 6 (set_up k n t a b (Some p) (Some l)) rs s.1.1.1.1.1

pub scripts_read_back : ScriptsReadBack
scripts_read_back w s =
    ap (λ ls. written_out (told 1 silence ls)) (lines_back (commands_of w) s)
    ∙ ap written_out (all_told w.kind w.capacity w.text w.token_records w.line_records w.token_book w.line_book w.requests s)
