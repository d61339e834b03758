use Rattle.std.proofs.Common.{◌≡◌, ℕ, ◌+◌, Some, sym, ◌∙◌, arith, below_more}
use Rattle.std.specs.List.{slice_get}
use Rattle.std.proofs.lemmas.Option.{slice_get_within}
use Rattle.books.specs.Tables.{step}
use Rattle.books.specs.Meaning.{tables}
use Rattle.books.proofs.Facts.{present_some}
use Rattle.scanner.proofs.Steps.{there, same_state}
use Rattle.scanner.proofs.scans.Scanner.stay.Goals as goal

pub loop-code-preserved : goal.loop-code-preserved
loop-code-preserved g c =
    let codes = g.S.Symbols.codes c.args.self.now.symbols.now in
    let t = tables c.args.self.now.book.now in
    let next = present_some (step t c.args.state c.in-Some.code) c.args.state (sym c.step.ensures.value ∙ same_state c.step.result c.args.state c.if-ne.ensures) in (
      omega (arith, slice_get_within codes (c.args.place + c.loop-code.count) c.in-Some.code (sym (there _ c.in-Some.ensures c.of.ensures))),
      below_more (λ k. (x : ℕ) × (Some x ≡ slice_get codes (c.args.place + k)) × (step t c.args.state x ≡ c.args.state)) c.loop-code.count c.loop-code.invariant.1 (c.in-Some.code, (there _ c.in-Some.ensures c.of.ensures), next.0),
      c.loop-code.invariant.2,
    )
