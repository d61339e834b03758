-- The worked sheets, computed.
use Rattle.std.proofs.Common.{refl}
use Rattle.reading.specs.Reading.{token, read, batch}
use Rattle.house.specs.House.{house_tokens}
use Rattle.house.specs.Sheets.{WorkedSheets}

pub worked_sheets : WorkedSheets house_tokens
unfolding token read batch house_tokens
worked_sheets = record { empty = refl; chorus = refl; starred_chorus = refl; chorus_and_word = refl; open_chorus = refl }
