-- Why no request is made.
use Rattle.std.specs.Prelude.{◌≡◌, Some, Option}
use Rattle.requests.specs.declared.faults.SheetFault.{SheetFault}
use Rattle.history.specs.declared.outcomes.Reason.{Reason}
use Rattle.history.specs.declared.outcomes.Reason.TheVariants.{NoMemory, Fault}

-- a fault is that of the opening
abbrev pub Due : Option SheetFault → Reason → Type 0
Due opening NoMemory = Unit {0}
Due opening (Fault f) = opening ≡ Some f
