use Rattle.std.proofs.Common.{ap, ◌∙◌, arith}
use Rattle.books.specs.Meaning.{tables}
use Rattle.scanner.proofs.Written.{token_sized, writing_more, writing_all}
use Rattle.scanner.proofs.lists.write_entries.Goals as goal

pub overflow_add-place : goal.overflow_add-place
overflow_add-place g c =
    let codes = g.S.Symbols.codes c.args.scanner.now.symbols.now in
    let sized = token_sized (tables c.args.scanner.now.book.now) codes c.args.memory.now c.loop-place.place c.loop-place.mode _ (omega arith) c.of.ensures c.token_at-token.result c.get-place.result (c.get-place.ensures ∙ ap (λ e. e.length) c.token.view_is) c.token_at-token.ensures in
    omega (arith, sized.1)

pub loop-place-smaller : goal.loop-place-smaller
loop-place-smaller g c =
    let codes = g.S.Symbols.codes c.args.scanner.now.symbols.now in
    let sized = token_sized (tables c.args.scanner.now.book.now) codes c.args.memory.now c.loop-place.place c.loop-place.mode _ (omega arith) c.of.ensures c.token_at-token.result c.get-place.result (c.get-place.ensures ∙ ap (λ e. e.length) c.token.view_is) c.token_at-token.ensures in
    omega (arith, sized.0, sized.1)

pub loop-place-preserved : goal.loop-place-preserved
loop-place-preserved g c =
    writing_more (tables c.args.scanner.now.book.now) (g.S.Symbols.codes c.args.scanner.now.symbols.now) c.args.memory.now c.loop-place.place c.loop-place.mode _ (omega arith) c.of.ensures c.token_at-token.result c.get-place.result (c.get-place.ensures ∙ ap (λ e. e.length) c.token.view_is) c.token_at-token.ensures
    c.loop-place.memory c.loop-place.entries _ c.loop-place.invariant (omega arith) (ap (λ e. e.mode) c.token.view_is)

pub returns-clause-written : goal.returns-clause-written
returns-clause-written g c =
    writing_all (tables c.args.scanner.now.book.now) (g.S.Symbols.codes c.args.scanner.now.symbols.now) c.args.memory.now c.loop-place.memory c.loop-place.place c.loop-place.mode c.loop-place.entries c.loop-place.invariant (omega arith) (omega arith) c.end_token.result c.end_token.ensures
