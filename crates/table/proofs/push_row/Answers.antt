use Rattle.std.proofs.Common.{arith}
use Rattle.std.proofs.lemmas.Grind.{common_steps}
use Rattle.table.proofs.Padded.{right_justified}
use Rattle.table.proofs.push_row.Goals as goal

pub returns : goal.returns
returns g c = grind (arith, common_steps, right_justified)
