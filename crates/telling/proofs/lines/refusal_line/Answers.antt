use Rattle.std.proofs.Common.{[], ◌∷◌, codes, ◌∙◌}
use Rattle.telling.specs.Lines.{three}
use Rattle.telling.proofs.Rows.{laid, three_shown, row_line}
use Rattle.telling.proofs.lines.refusal_line.Goals as goal

pub returns : goal.returns
returns c =
    let f = c.args.refusal in
    laid c.format.result (three_shown (codes "refused") (10 ∷ []) f.layer f.number f.detail ∙ row_line (codes "refused") (three f)) c.format.ensures.ok
