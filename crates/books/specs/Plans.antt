-- The counts and tables of a draft, and those that a book's copies hold.
use Rattle.std.specs.Prelude.{ℕ, ◌/◌, List, Vec, length, vec_items}
use Rattle.std.specs.Borrow.{Bor}
use Rattle.books.specs.declared.draft.Draft.{Draft}
use Rattle.books.specs.declared.copies.Copies.{Copies}
use Rattle.books.specs.Items.{items}
use Rattle.books.specs.Check.{Plan}

-- the plan of a draft whose tables have these items
abbrev pub plan_of : {T : Type 0} → (T → List ℕ) → Draft T → Plan
plan_of items d =
    record {
      states = d.states;
      modes = d.modes;
      rules = d.rules;
      tables =
          record {
            width = d.classes;
            classes = items d.class_table;
            steps = items d.step_table;
            accepts = items d.accept_table;
            rules = items d.rule_table;
            starts = items d.start_table;
          };
    }

-- the plan of a draft that lends its tables
abbrev pub plan : Draft (Bor (List ℕ)) → Plan
plan d = plan_of (λ table. table.now) d

-- the plan of a draft that owns them
abbrev pub planned : {Z : Type 0} → Draft (Vec ℕ Z) → Plan
planned d = plan_of vec_items d

-- the counts follow from the lengths
abbrev pub held : Copies → Plan
held k =
    record {
      states = length (items k.accept_table);
      modes = length (items k.start_table);
      rules = length (items k.rule_table) / 2;
      tables =
          record {
            width = k.classes;
            classes = k.class_table;
            steps = items k.step_table;
            accepts = items k.accept_table;
            rules = items k.rule_table;
            starts = items k.start_table;
          };
    }
