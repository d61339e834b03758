use Rattle.std.proofs.Common.{◌≡◌, ℕ, List, [], ◌∷◌, ◌++◌, codes, ap, ◌∙◌, rules}
use Rattle.script.specs.Shown.{quoted}
use Rattle.telling.specs.Lines.{line_with, three, copy_line}
use Rattle.telling.proofs.Rows.{laid, three_shown, row_with_text}
use Rattle.telling.proofs.lines.copy_line.Goals as goal

pub returns-in_ok-format-in-Ok : goal.returns-in_ok-format-in-Ok
returns-in_ok-format-in-Ok c =
    let buffer = c.args.buffer.now in
    let ns = c.in-Ok.count ∷ [] in
    let same : line_with (codes "copied") ns buffer ≡ copy_line c.args.count.now buffer = search rules in
    let behind : List ℕ → List ℕ = λ xs. (xs ++ quoted buffer) ++ (10 ∷ []) in
    laid c.with_text.result (ap behind c.in_ok-format-in-Ok.ensures.ok ∙ row_with_text (codes "copied") ns buffer ∙ same) c.with_text.ensures

pub returns-in_ok-format-in-Err : goal.returns-in_ok-format-in-Err
returns-in_ok-format-in-Err c =
    let buffer = c.args.buffer.now in
    let f = c.from.result in
    let name = codes "refused" in
    let same : line_with name (three f) buffer ≡ copy_line c.args.count.now buffer = search rules in
    let behind : List ℕ → List ℕ = λ xs. (xs ++ quoted buffer) ++ (10 ∷ []) in
    laid c.with_text-in-Err.result
    (ap behind (c.in_ok-format-in-Err.ensures.ok ∙ three_shown name (32 ∷ []) f.layer f.number f.detail) ∙ row_with_text name (three f) buffer ∙ same)
    c.with_text-in-Err.ensures
