-- When a sheet is not opened.
use Rattle.std.specs.Prelude.{ℕ, Bool, cond, Some, None, Option, nat_le, nat_lt}
use Rattle.requests.specs.declared.faults.SheetFault.{SheetFault}
use Rattle.requests.specs.declared.faults.SheetFault.TheVariants.{Capacity, TokenMemory, LineMemory}

-- a question: a yes goes on to the next, a no gives its fault
abbrev pub asked : Bool → SheetFault → Option SheetFault → Option SheetFault
asked answer fault next = cond answer next (Some fault)

-- The three questions where the store has room for a capacity, and the memories have so many records. The first no decides.
-- Is the capacity at most 65535? Has the token memory a record for each byte of the capacity, and one more? Has the line memory?
abbrev pub unopened : ℕ → ℕ → ℕ → Option SheetFault
unopened capacity tokens lines =
    asked (nat_le capacity 65535) (Capacity capacity)
    (asked (nat_lt capacity tokens) (TokenMemory tokens)
    (asked (nat_lt capacity lines) (LineMemory lines) None))
