use Rattle.std.proofs.Common.{◌≡◌, [], ◌∷◌, ap, ◌∙◌, rules}
use Rattle.telling.specs.Lines.{line, five}
use Rattle.telling.proofs.Rows.{laid, row_line}
use Rattle.telling.proofs.lines.entry_line.Goals as goal

pub returns : goal.returns
returns g c =
    let name = c.args.name.now in
    let e = c.entry.inside in
    let read = e.kind ∷ e.length ∷ e.reading ∷ e.mode ∷ e.lookback ∷ [] in
    let same : read ≡ five c.args.entry.now = search rules in
    laid c.format.result (row_line name read ∙ ap (line name) same) c.format.ensures.ok
