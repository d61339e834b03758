-- What a line says: a command, which is a word and its fields.
use Rattle.std.specs.Prelude.{ℕ, cond, List, length, replicate, Ok, Err, codes, Result, ◌==◌}
use Rattle.std.specs.Option.{ok_or}
use Rattle.std.specs.Str.{bytes_eq}
use Rattle.books.specs.Check.{Plan}
use Rattle.requests.specs.Asked.{Asked, correct, token, line, where_is, time, copy, alike}
use Rattle.script.specs.declared.names.Name.{Name}
use Rattle.script.specs.declared.names.Name.TheVariants as name
use Rattle.script.specs.declared.scripts.StoreKind.{StoreKind}
use Rattle.script.specs.declared.scripts.StoreKind.TheVariants.{Flat, Gap}
use Rattle.script.specs.declared.wrong.Wrong.{Wrong}
use Rattle.script.specs.declared.wrong.Wrong.TheVariants.{Command, Missing, Store}
use Rattle.script.specs.Fields.{front, onward, field, number_in, size_in, table_in, text_in, at_end}
use Rattle.script.specs.Names.{name_of}
use Rattle.script.specs.Steps.{on}

pub data Instruction : Type 0 where
  store : StoreKind → ℕ → Instruction
  opening_text : List ℕ → Instruction
  memory : ℕ → ℕ → Instruction
  token_book : Plan → Instruction
  line_book : Plan → Instruction
  ask : Asked → Instruction

abbrev pub kind_of : List ℕ → Result StoreKind Wrong
kind_of w =
    cond (bytes_eq w (codes "flat")) (Ok Flat)
    (cond (bytes_eq w (codes "gap")) (Ok Gap)
    (cond (length w == 0) (Err Missing) (Err Store)))

abbrev pub store_in : List ℕ → Result (Instruction × List ℕ) Wrong
store_in s = on (field kind_of s) (λ k. on (size_in k.1) (λ n. Ok (store k.0 n.0, n.1)))

abbrev pub memory_in : List ℕ → Result (Instruction × List ℕ) Wrong
memory_in s = on (size_in s) (λ t. on (size_in t.1) (λ l. Ok (memory t.0 l.0, l.1)))

-- four counts and five tables
abbrev pub plan_in : List ℕ → Result (Plan × List ℕ) Wrong
plan_in s =
    on (number_in s) (λ states.
    on (number_in states.1) (λ width.
    on (number_in width.1) (λ modes.
    on (number_in modes.1) (λ rules.
    on (table_in rules.1) (λ classes.
    on (table_in classes.1) (λ steps.
    on (table_in steps.1) (λ accepts.
    on (table_in accepts.1) (λ pairs.
    on (table_in pairs.1) (λ starts.
    Ok (
      record {
        states = states.0;
        modes = modes.0;
        rules = rules.0;
        tables =
            record {
              width = width.0;
              classes = classes.0;
              steps = steps.0;
              accepts = accepts.0;
              rules = pairs.0;
              starts = starts.0;
            };
      },
      starts.1,
    ))))))))))

abbrev pub correct_in : List ℕ → Result (Asked × List ℕ) Wrong
correct_in s = on (number_in s) (λ a. on (number_in a.1) (λ c. on (text_in c.1) (λ i. Ok (correct a.0 c.0 i.0, i.1))))

-- a request with one number
abbrev pub one_in : (ℕ → Asked) → List ℕ → Result (Asked × List ℕ) Wrong
one_in f s = on (number_in s) (λ n. Ok (f n.0, n.1))

-- the buffer of a copy is of bytes of 255
abbrev pub copy_in : List ℕ → Result (Asked × List ℕ) Wrong
copy_in s = on (number_in s) (λ n. on (size_in n.1) (λ k. Ok (copy n.0 (replicate k.0 255), k.1)))

abbrev pub alike_in : List ℕ → Result (Asked × List ℕ) Wrong
alike_in s = on (number_in s) (λ a. on (number_in a.1) (λ b. Ok (alike a.0 b.0, b.1)))

-- the fields of each command
abbrev pub asking : Result (Asked × List ℕ) Wrong → Result (Instruction × List ℕ) Wrong
asking d = on d (λ r. Ok (ask r.0, r.1))

abbrev pub fields_in : Name → List ℕ → Result (Instruction × List ℕ) Wrong
fields_in name.Store s = store_in s
fields_in name.Text s = on (text_in s) (λ t. Ok (opening_text t.0, t.1))
fields_in name.Memory s = memory_in s
fields_in name.TokenBook s = on (plan_in s) (λ p. Ok (token_book p.0, p.1))
fields_in name.LineBook s = on (plan_in s) (λ p. Ok (line_book p.0, p.1))
fields_in name.Correct s = asking (correct_in s)
fields_in name.Token s = asking (one_in token s)
fields_in name.Line s = asking (one_in line s)
fields_in name.Where s = asking (one_in where_is s)
fields_in name.Time s = asking (one_in time s)
fields_in name.Copy s = asking (copy_in s)
fields_in name.Alike s = asking (alike_in s)

-- the word goes up to the first blank, and nothing stands behind the last field
abbrev pub command_of : List ℕ → Result Instruction Wrong
command_of l =
    on (ok_or (name_of (front 32 l)) Command) (λ n.
    on (fields_in n (onward 32 l)) (λ c.
    on (at_end c.1) (λ _. Ok c.0)))
