use Rattle.std.proofs.Common.{arith, length-take}
use Rattle.std.proofs.lemmas.List.{with_items_is}
use Rattle.text.proofs.Pieces.{flat_spliced}
use Rattle.text.proofs.Facts.{taken}
use Rattle.text.proofs.flat.methods.FlatStoreTextStore.replace.Goals as goal

pub returns-clause-after : goal.returns-clause-after
returns-clause-after c = grind (arith, with_items_is, taken, flat_spliced, length-take)
