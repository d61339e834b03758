use Rattle.std.proofs.Common.{length, take, vec_len, sym, ap, ◌∙◌, arith}
use Rattle.std.proofs.lemmas.List.{with_items_is}
use Rattle.books.specs.Meaning.{tables}
use Rattle.reading.specs.Reading.{kinds}
use Rattle.sheet.proofs.Codes.{kinds_within}
use Rattle.sheet.proofs.Opened.{fits}
use Rattle.sheet.proofs.sheets.Sheet.open.Goals as goal

pub read-requires-2 : goal.read-requires-2
read-requires-2 g c =
    let parts = c.args.parts in
    let few = kinds_within (tables parts.token_book) (g.S.TextStore.text parts.store) in
    let items = with_items_is parts.tokens c.read.new.memory (c.read.auto.memory ∙ c.as_mut_slice.ensures.len) in
    let codes = c.kinds.ensures ∙ ap (λ xs. kinds (take c.read.result xs)) items ∙ ap kinds c.read.ensures.list in
    let room = (fits (g.S.TextStore.room parts.store) (vec_len parts.tokens) (vec_len parts.lines) (sym c.in_default.ensures)).line_room in
    omega (arith, few, ap length codes, room, c.as_mut_slice-2.ensures.len, g.met.S.TextStore.fits parts.store)
