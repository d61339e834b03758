use Rattle.std.proofs.Common.{◌≡◌, [], ◌∷◌, codes, ap, ◌∙◌, rules}
use Rattle.telling.specs.Lines.{line, eight}
use Rattle.telling.proofs.Rows.{laid, eight_shown, row_line}
use Rattle.telling.proofs.lines.report_line.Goals as goal

pub returns : goal.returns
returns c =
    let t = c.reports.inside.tokens in
    let l = c.reports.inside.lines in
    let name = codes "report" in
    let read = t.first ∷ t.out ∷ t.«in» ∷ t.tail ∷ l.first ∷ l.out ∷ l.«in» ∷ l.tail ∷ [] in
    let same : read ≡ eight c.args.reports.now = search rules in
    laid c.format.result
    (eight_shown name (10 ∷ []) t.first t.out t.«in» t.tail l.first l.out l.«in» l.tail ∙ row_line name read ∙ ap (line name) same)
    c.format.ensures.ok
