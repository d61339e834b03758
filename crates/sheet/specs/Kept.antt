-- A list at the front of its memory.
use Rattle.std.specs.Prelude.{List, take, vec_items}
use Rattle.reading.specs.Reading.{Entry}
use Rattle.sheet.specs.declared.entries.Entries.{Entries}

abbrev pub entries : {L B : Type 0} → Entries L B → List Entry
entries k = take k.count (vec_items k.memory)
