use Rattle.script.specs.Wrongs.{words}
use Rattle.telling.proofs.Rows.{laid, row_broken}
use Rattle.telling.proofs.lines.broken_line.Goals as goal

pub returns : goal.returns
returns c = laid c.format.result (row_broken c.args.number (words c.args.wrong)) c.format.ensures.ok
