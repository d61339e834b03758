use Rattle.std.proofs.Common.{arith}
use Rattle.text.proofs.Pieces.{paste_self}
use Rattle.text.proofs.moves.slide.Goals as goal

pub returns-else-from-to : goal.returns-else-from-to
returns-else-from-to c = grind (arith, paste_self)
