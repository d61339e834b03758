-- What the code holds, as plain values.
use Rattle.std.specs.Prelude.{◌≡◌, ℕ, map, Err, vec_items, Result}
use Rattle.std.specs.Option.{option_map}
use Rattle.books.specs.Plans.{planned}
use Rattle.requests.specs.Plain.{asked}
use Rattle.script.specs.declared.commands.Command as CodeCommand
use Rattle.script.specs.declared.commands.Command.TheVariants as says
use Rattle.script.specs.declared.scripts.Said as CodeSaid
use Rattle.script.specs.declared.scripts.Script as CodeScript
use Rattle.script.specs.declared.wrong.Wrong.{Wrong}
use Rattle.script.specs.declared.wrong.Stop.{Stop}
use Rattle.script.specs.declared.wrong.Stop.TheVariants as stop
use Rattle.script.specs.declared.wrong.Broken.{Broken}
use Rattle.script.specs.declared.wrong.Broken.TheVariants as broken
use Rattle.script.specs.Commands.{Instruction, store, opening_text, memory, token_book, line_book, ask}
use Rattle.script.specs.Scripts.{Heard, Written}

abbrev pub instruction : CodeCommand.Command → Instruction
instruction (says.Store k n) = store k n
instruction (says.Text t) = opening_text (vec_items t)
instruction (says.Memory t l) = memory t l
instruction (says.TokenBook p) = token_book (planned p)
instruction (says.LineBook p) = line_book (planned p)
instruction (says.Ask r) = ask (asked r)

abbrev pub heard : CodeSaid.Said → Heard
heard s =
    record {
      store = s.store;
      text = option_map vec_items s.text;
      memory = s.memory;
      token_book = option_map planned s.token_book;
      line_book = option_map planned s.line_book;
      requests = map asked (vec_items s.requests);
    }

abbrev pub written : CodeScript.Script → Written
written s =
    record {
      kind = s.kind;
      capacity = s.capacity;
      text = vec_items s.text;
      token_records = s.token_records;
      line_records = s.line_records;
      token_book = option_map planned s.token_book;
      line_book = option_map planned s.line_book;
      requests = map asked (vec_items s.requests);
    }

abbrev pub broken_at : ℕ → Stop → Broken
broken_at n stop.NoMemory = broken.NoMemory
broken_at n (stop.Wrong w) = broken.Line n w

-- what a script says that is not read: this line breaks the rules so, or nothing where it is memory that is wanting
abbrev pub Breaks : Result Written (ℕ × Wrong) → Broken → Type 0
Breaks d broken.NoMemory = Unit {0}
Breaks d (broken.Line n w) = d ≡ Err (n, w)
