use Rattle.std.proofs.Common.{◌≡◌, ◌<◌, false, ◌⊎◌, length, drop, ap, inl, inr, arith}
use Rattle.books.specs.Meaning.{tables}
use Rattle.books.proofs.Facts.{book_sound}
use Rattle.reading.specs.Reading.{Entry}
use Rattle.scanner.specs.Scanned.{scanned}
use Rattle.correction.proofs.Runs.{scanned_within, scanned_reach}
use Rattle.correction.proofs.Meets.{keeps, onward_begins, turn_joins, turn_more, turn_ends}
use Rattle.correction.proofs.walks.walk.Goals as goal
use Rattle.correction.proofs.walks.walk.Goals.{else-behind-here-via-then-behind-here+else-is_kept, else-behind-here-via-else-behind-here}

pub loop-here-init : goal.loop-here-init
loop-here-init g c =
    record {
      here = omega arith;
      added = omega arith;
      on = omega arith;
      within = omega arith;
      behind = omega (arith, ap (λ e. e.place) c.edit.view_is, ap (λ e. e.inserted) c.edit.view_is);
      onward = λ xs room small met is s. onward_begins _ _ _ xs _ _ room small met _ _ _ _ _ _ is c.start-here.ensures s.0 s.1;
    }

pub returns-then-is_kept-clause-walked : goal.returns-then-is_kept-clause-walked
returns-then-is_kept-clause-walked g c xs room small met is s =
    let book = c.args.scanner.now.book.now in
    let old = c.pass-old.result in
    let o = c.loop-here.invariant.onward xs room small met is s in
    turn_joins (tables book) (book_sound book) c.args.edit xs (g.S.Symbols.codes c.args.scanner.now.symbols.now) c.args.entries.now room small met _ _ _ _ _ _ _ _ o
    old.to.at.number old.to.at.start old.to.mode old.reach c.old_place-there.result c.saturating_add-behind.result c.old_place-there.ensures c.pass-old.ensures.passes c.loop-here.invariant.behind
    c.if-behind-here.true c.if-is_kept.ensures c.new_place.result _ _ _ c.new_place.ensures c.of-then-is_kept.ensures (omega arith) (omega arith)

pub returns-then-here-length-clause-walked : goal.returns-then-here-length-clause-walked
returns-then-here-length-clause-walked g c xs room small met is s =
    let book = c.args.scanner.now.book.now in
    let old = c.pass-old.result in
    let o = c.loop-here.invariant.onward xs room small met is s in
    let none : (c.loop-here.here < c.saturating_add-behind.result) ⊎ (false ≡ keeps old.to.at.number (length c.args.entries.now) old.to.at.start c.old_place-there.result old.to.mode c.loop-here.mode) =
    elim c.else-behind-here.branch [ else-behind-here-via-then-behind-here+else-is_kept w ↦ inr w.if-is_kept.ensures | else-behind-here-via-else-behind-here w ↦ inl w.if-behind-here.false ] in
    turn_ends (tables book) (book_sound book) c.args.edit xs (g.S.Symbols.codes c.args.scanner.now.symbols.now) c.args.entries.now room small met _ _ _ _ _ _ _ _ o
    old.to.at.number old.to.at.start old.to.mode old.reach c.old_place-there.result c.saturating_add-behind.result c.old_place-there.ensures c.pass-old.ensures.passes c.loop-here.invariant.behind
    none (omega arith) _ _ _ c.of-then-here-length.ensures c.of-then-here-length-2.ensures (omega arith)

pub overflow_add-here-in-loop-here : goal.overflow_add-here-in-loop-here
overflow_add-here-in-loop-here g c =
    let t = tables c.args.scanner.now.book.now in
    let codes = g.S.Symbols.codes c.args.scanner.now.symbols.now in
    let far = scanned_reach t c.loop-here.mode c.of-in-loop-here.result codes (omega arith) in
    let token : Entry = c.scan-token.result in
    let value : token ≡ scanned t c.loop-here.mode (drop c.of-in-loop-here.result codes) = c.scan-token.ensures.value in
    let reads : c.token.inside.reading ≡ token.reading = ap (λ (x : Entry). x.reading) c.token.view_is in
    omega (arith, far, reads, ap (λ x. x.reading) value)

pub loop-here-preserved : goal.loop-here-preserved
loop-here-preserved g c =
    let book = c.args.scanner.now.book.now in
    let t = tables book in
    let codes = g.S.Symbols.codes c.args.scanner.now.symbols.now in
    let long = scanned_within t c.loop-here.mode c.of-in-loop-here.result codes in
    let token : Entry = c.scan-token.result in
    let value : token ≡ scanned t c.loop-here.mode (drop c.of-in-loop-here.result codes) = c.scan-token.ensures.value in
    let size : c.token.inside.length ≡ token.length = ap (λ (x : Entry). x.length) c.token.view_is in
    let reads : c.token.inside.reading ≡ token.reading = ap (λ (x : Entry). x.reading) c.token.view_is in
    let mode : c.token.inside.mode ≡ token.mode = ap (λ (x : Entry). x.mode) c.token.view_is in
    let some = (c.scan-token.ensures.longest (omega arith)).some in
    let old = c.pass-old.result in
    let none : (c.loop-here.here < c.saturating_add-behind.result) ⊎ (false ≡ keeps old.to.at.number (length c.args.entries.now) old.to.at.start c.old_place-there.result old.to.mode c.loop-here.mode) =
    elim c.else-behind-here.branch [ else-behind-here-via-then-behind-here+else-is_kept w ↦ inr w.if-is_kept.ensures | else-behind-here-via-else-behind-here w ↦ inl w.if-behind-here.false ] in
    record {
      here = omega (arith, long, size, ap (λ x. x.length) value);
      added = omega (arith, some, size);
      on = omega arith;
      within = omega arith;
      behind = c.loop-here.invariant.behind;
      onward = λ xs room small met is s.
          turn_more t (book_sound book) c.args.edit xs codes c.args.entries.now room small met _ _ _ _ _ _ _ _ (c.loop-here.invariant.onward xs room small met is s)
          old.to.at.number old.to.at.start old.to.mode old.reach c.old_place-there.result c.saturating_add-behind.result c.old_place-there.ensures c.pass-old.ensures.passes c.loop-here.invariant.behind
          none (omega arith) token c.of-in-loop-here.result c.of-in-loop-here.ensures value _ _ _ mode (omega (arith, size)) (omega (arith, reads));
    }
