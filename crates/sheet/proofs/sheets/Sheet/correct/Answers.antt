use Rattle.std.proofs.Common.{◌≡◌, ◌+◌, ◌≤◌, length, vec_items, vec_len, sym, ap, ◌∙◌, subst, arith}
use Rattle.std.specs.Option.{option_map}
use Rattle.std.proofs.lemmas.List.{length-take-le}
use Rattle.text.specs.Refused as store
use Rattle.books.specs.Meaning.{tables}
use Rattle.reading.specs.Reading.{batch, kinds}
use Rattle.reading.specs.Report.{edit, edit_above}
use Rattle.scanner.specs.Numbers.{kinds_of}
use Rattle.correction.specs.Promise.{Brought}
use Rattle.correction.specs.Walks.{Met}
use Rattle.requests.specs.Sheets.{line_list}
use Rattle.sheet.specs.Kept.{entries}
use Rattle.sheet.specs.Lists.{lines_of}
use Rattle.sheet.proofs.Texts.{taken_within}
use Rattle.sheet.proofs.Corrected.{met_tokens, met_lines, lines_are, reports_are}
use Rattle.sheet.proofs.sheets.Sheet.correct.Goals as goal

pub returns-clause-right : goal.returns-clause-right
returns-clause-right g c ok =
    let h = c.args.self.now in
    let s = g.S.TextStore.text h.store in
    let u = g.S.TextStore.text c.replace.new.self in
    let room = g.S.TextStore.room h.store in
    let a = c.args.place in
    let k = c.args.cut in
    let i = c.args.inserted.now in
    let t = tables h.tokens.book in
    let l = tables h.lines.book in
    let w = c.in_ok-replace.ensures in
    let cut-there : a + k ≤ length s = taken_within room s a k i (ap (option_map store.told) (sym w.answer)) in
    let before : length s ≤ room = g.met.S.TextStore.fits h.store in
    let after : length u ≤ room = omega (arith, g.met.S.TextStore.fits c.replace.new.self, w.capacity) in
    let tokens = c.follow-tokens.new.list in
    let new = entries tokens in
    let r = c.follow-tokens.result in
    let met : Met t (edit a k c.of.result) s u (entries h.tokens) (vec_len h.tokens.memory) = subst (λ n. Met t (edit a k n) s u (entries h.tokens) (vec_len h.tokens.memory)) (sym c.of.ensures) (met_tokens h s room ok a k i u cut-there w.after before after) in
    let on-tokens : Brought t (edit a k (length i)) s u tokens.count new r = subst (λ n. Brought t (edit a k n) s u tokens.count new r) c.of.ensures (c.follow-tokens.ensures.brought s met) in
    let f = c.edit_above-above.result in
    let f-is : f ≡ edit_above new r = c.edit_above-above.ensures new (length-take-le tokens.count (vec_items tokens.memory) (omega (arith, tokens.within))) in
    let lines = c.follow-lines.new.list in
    let q = c.follow-lines.result in
    let above : Met l f (kinds (batch t s)) (kinds_of c.kinds.result.0.now) (lines_of h) (vec_len h.lines.memory) =
    subst (λ ys. Met l f (kinds (batch t s)) ys (lines_of h) (vec_len h.lines.memory)) (sym c.kinds.ensures) (met_lines h s room ok a k i u cut-there w.after before after tokens.count new r on-tokens f f-is) in
    let on-lines : Brought l f (kinds (batch t s)) (kinds new) lines.count (entries lines) q =
    subst (λ ys. Brought l f (kinds (batch t s)) ys lines.count (entries lines) q) c.kinds.ensures (c.follow-lines.ensures.brought (kinds (batch t s)) above) in (
      record {
        tokens = on-tokens.list ∙ ap (λ b. batch (tables b) u) (sym c.follow-tokens.ensures.book);
        lines = lines_are h s room ok a k i u cut-there w.after before after tokens.count new r on-tokens f f-is _ _ _ on-lines ∙ ap (λ b. line_list (tables b) l u) (sym c.follow-tokens.ensures.book) ∙ ap (λ b. line_list (tables tokens.book) (tables b) u) (sym c.follow-lines.ensures.book);
        limit = omega (arith, ok.limit, w.capacity);
        token_room = omega (arith, ok.token_room, w.capacity, c.follow-tokens.ensures.memory);
        line_room = omega (arith, ok.line_room, w.capacity, c.follow-lines.ensures.memory);
      },
      reports_are h s room ok a k i u cut-there w.after before after tokens.count new r on-tokens f f-is _ _ _ on-lines,
    )
