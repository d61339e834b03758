use Rattle.std.proofs.Common.{◌≡◌, ◌≤◌, length, vec_len, ap, ◌∙◌, arith}
use Rattle.books.specs.Meaning.{tables}
use Rattle.reading.specs.Reading.{batch, kinds}
use Rattle.reading.specs.Laws.{total_length}
use Rattle.reading.proofs.Batch.{batch_adds_up, batch_length}
use Rattle.reading.proofs.Lists.{length_kinds}
use Rattle.sheet.specs.Lists.{tokens_of, lines_of}
use Rattle.sheet.proofs.Opened.{fits}
use Rattle.replay.proofs.plays.play_over.Goals as goal

pub closing-requires : goal.closing-requires
closing-requires g c =
    let store = g.S.TextStore in
    let parts = c.args.parts in
    let sheet = c.in-Ok.performed.sheet in
    let xs = store.text sheet.store in
    let t = tables parts.token_book in
    let l = tables parts.line_book in
    let history = c.in-Ok.ensures.history in
    let limit : store.room parts.store ≤ 65535 = (fits (store.room parts.store) (vec_len parts.tokens) (vec_len parts.lines) c.in-Ok.ensures.answer).limit in
    let same : store.room sheet.store ≡ store.room parts.store = c.in-Ok.ensures.kept.0 in
    let held : length xs ≤ store.room sheet.store = g.met.S.TextStore.fits sheet.store in
    let short : length xs ≤ 65535 = omega (arith, held, same, limit) in
    let tokens : total_length (tokens_of sheet) ≡ length xs = ap total_length history.token_list_of ∙ batch_adds_up t xs in
    let lines : total_length (lines_of sheet) ≡ length (kinds (batch t xs)) = ap total_length history.line_list_of ∙ batch_adds_up l (kinds (batch t xs)) in
    record {
      token_total = omega (arith, tokens, short);
      line_total = omega (arith, lines, length_kinds (batch t xs), batch_length t xs, short);
    }
