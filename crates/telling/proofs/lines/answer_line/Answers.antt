use Rattle.std.proofs.Common.{◌≡◌, [], ◌∷◌, codes, ◌∙◌, rules}
use Rattle.telling.specs.Lines.{line, answer_line}
use Rattle.telling.proofs.Rows.{laid, row_line}
use Rattle.telling.proofs.lines.answer_line.Goals as goal

pub returns-in-Where-Some : goal.returns-in-Where-Some
returns-in-Where-Some c =
    let ns = c.in-Where-Some.token ∷ c.in-Where-Some.offset ∷ [] in
    let same : line (codes "where") ns ≡ answer_line c.args.answer.now = search rules in
    laid c.format.result (row_line (codes "where") ns ∙ same) c.format.ensures.ok

pub returns-in-Time-Some : goal.returns-in-Time-Some
returns-in-Time-Some c =
    let ns = c.in-Time-Some.hundredths ∷ [] in
    let same : line (codes "time") ns ≡ answer_line c.args.answer.now = search rules in
    laid c.format-in-Time-Some.result (row_line (codes "time") ns ∙ same) c.format-in-Time-Some.ensures.ok
