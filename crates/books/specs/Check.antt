-- When counts and tables make a book: seven questions in order, each asked of every detail from the lowest on. The first no decides.
use Rattle.std.specs.Prelude.{ℕ, ◌*◌, Bool, not, ◌&&◌, List, [], ◌∷◌, length, Some, None, Option, position, ◌==◌, nat_le, nat_lt}
use Rattle.std.specs.Option.{option_map}
use Rattle.std.specs.List.{range_with_len}
use Rattle.books.specs.declared.fault.BookFault.{BookFault}
use Rattle.books.specs.declared.fault.BookFault.TheVariants.{Count, Length, Class, Step, Accept, Rule, Start}
use Rattle.books.specs.Tables.{Tables, kind_of, next_mode, closed}
use Rattle.books.specs.Sound.{below_or_none}

-- three counts and the tables; the fourth count, of the classes, is the tables' width
pub record Plan : Type 0 where
  pub states : ℕ
  pub modes : ℕ
  pub rules : ℕ
  pub tables : Tables

-- the first of two answers that is there
abbrev pub first : {A : Type 0} → Option A → Option A → Option A
first (Some x) y = Some x
first None y = y

abbrev pub first_of : {A : Type 0} → List (Option A) → Option A
first_of [] = None
first_of (x ∷ xs) = first x (first_of xs)

-- the place of the first element of a list that gets a no
abbrev pub first_no : {A : Type 0} → (A → Bool) → List A → Option ℕ
first_no right xs = position (λ x. not (right x)) xs

-- a count is from 1 to most
abbrev pub counted : ℕ → ℕ → Bool
counted n most = nat_le 1 n && nat_le n most

-- 1. Are there 1 to 128 states, 1 to 32 classes, 1 to 16 modes and 1 to 64 rules? The detail is the count's place.
abbrev pub counts_right : Plan → List Bool
counts_right p = counted p.states 128 ∷ counted p.tables.width 32 ∷ counted p.modes 16 ∷ counted p.rules 64 ∷ []

abbrev pub wrong_count : Plan → Option ℕ
wrong_count p = first_no (λ yes. yes) (counts_right p)

abbrev pub count_fault : Plan → Option BookFault
count_fault p = option_map Count (wrong_count p)

-- 2. Is each table as long as the counts say? The detail is the table's place.
abbrev pub lengths_right : Plan → List Bool
lengths_right p =
    (length p.tables.classes == 256)
    ∷ (length p.tables.steps == p.states * p.tables.width)
    ∷ (length p.tables.accepts == p.states)
    ∷ (length p.tables.rules == 2 * p.rules)
    ∷ (length p.tables.starts == p.modes)
    ∷ []

abbrev pub wrong_length : Plan → Option ℕ
wrong_length p = first_no (λ yes. yes) (lengths_right p)

abbrev pub length_fault : Plan → Option BookFault
length_fault p = option_map Length (wrong_length p)

-- 3. Is each code's class below the number of classes? The detail is the code.
abbrev pub class_right : Plan → ℕ → Bool
class_right p class = nat_lt class p.tables.width

abbrev pub wrong_class : Plan → Option ℕ
wrong_class p = first_no (class_right p) p.tables.classes

abbrev pub class_fault : Plan → Option BookFault
class_fault p = option_map Class (wrong_class p)

-- 4. Is each step below the number of states, or 255 for none? The detail is the entry in the step table.
abbrev pub step_right : Plan → ℕ → Bool
step_right p next = below_or_none p.states next

abbrev pub wrong_step : Plan → Option ℕ
wrong_step p = first_no (step_right p) p.tables.steps

abbrev pub step_fault : Plan → Option BookFault
step_fault p = option_map Step (wrong_step p)

-- 5. Does each state accept a rule below the number of rules, or 255 for none? The detail is the state.
abbrev pub accept_right : Plan → ℕ → Bool
accept_right p rule = below_or_none p.rules rule

abbrev pub wrong_accept : Plan → Option ℕ
wrong_accept p = first_no (accept_right p) p.tables.accepts

abbrev pub accept_fault : Plan → Option BookFault
accept_fault p = option_map Accept (wrong_accept p)

-- 6. Has each rule a kind of 2 or more, and a mode below the number of modes? The detail is the rule.
abbrev pub kind_and_mode_right : Plan → ℕ → ℕ → Bool
kind_and_mode_right p kind mode = nat_le 2 kind && nat_lt mode p.modes

abbrev pub rule_right : Plan → ℕ → Bool
rule_right p rule = kind_and_mode_right p (kind_of p.tables rule) (next_mode p.tables rule)

abbrev pub wrong_rule : Plan → Option ℕ
wrong_rule p = first_no (rule_right p) (range_with_len 0 p.rules)

abbrev pub rule_fault : Plan → Option BookFault
rule_fault p = option_map Rule (wrong_rule p)

-- 7. Does each mode start in a state below the number of states that is not closed? The detail is the mode.
abbrev pub start_right : Plan → ℕ → Bool
start_right p state = nat_lt state p.states && not (closed p.tables state)

abbrev pub wrong_start : Plan → Option ℕ
wrong_start p = first_no (start_right p) p.tables.starts

abbrev pub start_fault : Plan → Option BookFault
start_fault p = option_map Start (wrong_start p)

-- the fault of a plan, or none: then it makes a book
unfoldable pub fault : Plan → Option BookFault
fault p =
    first_of
    (count_fault p ∷ length_fault p ∷ class_fault p ∷ step_fault p ∷ accept_fault p ∷ rule_fault p ∷ start_fault p ∷ [])
