use Rattle.std.proofs.Common.{arith}
use Rattle.std.proofs.lemmas.List.{with_items_is}
use Rattle.text.proofs.Pieces.{gap_filled, length_around}
use Rattle.text.proofs.Facts.{taken}
use Rattle.text.proofs.gap.methods.GapStoreTextStore.replace.Goals as goal

pub returns-clause-after : goal.returns-clause-after
returns-clause-after c = grind (arith, with_items_is, taken, gap_filled, length_around)
