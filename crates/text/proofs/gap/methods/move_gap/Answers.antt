use Rattle.std.proofs.Common.{arith}
use Rattle.text.proofs.Pieces.{gap_left, gap_right}
use Rattle.text.proofs.gap.methods.move_gap.Goals as goal

pub returns-then-place-gap : goal.returns-then-place-gap
returns-then-place-gap c = grind (arith, gap_left)

pub returns-else-place-gap : goal.returns-else-place-gap
returns-else-place-gap c = grind (arith, gap_right)
