use Rattle.std.proofs.Common.{◌≡◌, ◌≤◌, List, take}
use Rattle.reading.specs.Reading.{Entry}
use Rattle.scanner.specs.Spots.{Stands}
use Rattle.correction.specs.Lookbacks.{Awaits}
use Rattle.correction.proofs.Gives.{Turning}
use Rattle.correction.proofs.lookbacks.give_lookbacks.Given as goal

abbrev pub invariant-loop-number : goal.invariant-loop-number
invariant-loop-number g l =
    (l.spot.number ≡ l.number) × (l.reader.number ≤ l.number) × (l.changed ≤ l.number) × (take l.fn.first.number l.entries ≡ take l.fn.first.number l.fn.entries) ×
    ((new : List Entry) → Stands l.fn.entries l.fn.reader → Stands l.fn.entries l.fn.first → l.fn.first.number ≤ l.kept →
    Awaits l.fn.entries new l.fn.first.number l.fn.reader.number →
    Turning l.fn.entries new l.kept l.entries l.number l.spot.start l.reader.number l.reader.start l.changed)
