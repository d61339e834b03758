-- How a sheet's refusals are told: layer 3, but those of the store, which are told as the store tells them.
use Rattle.counts.specs.declared.Refusal.{Refusal}
use Rattle.text.specs.Refused as store
use Rattle.requests.specs.declared.faults.SheetFault.{SheetFault}
use Rattle.requests.specs.declared.faults.SheetFault.TheVariants.{Store, Capacity, TokenMemory, LineMemory, NoToken, ShortBuffer}

abbrev pub told : SheetFault → Refusal
told (Store f) = store.told f
told (Capacity c) = record { layer = 3; number = 8; detail = c }
told (TokenMemory n) = record { layer = 3; number = 9; detail = n }
told (LineMemory n) = record { layer = 3; number = 10; detail = n }
told (NoToken n) = record { layer = 3; number = 14; detail = n }
told (ShortBuffer n) = record { layer = 3; number = 15; detail = n }
