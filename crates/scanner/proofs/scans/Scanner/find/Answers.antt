use Rattle.std.proofs.Common.{sym, arith}
use Rattle.scanner.proofs.Steps.{there, ends_closed, ends_last, ends_stuck, goes_on, goes_on_with}
use Rattle.books.proofs.Facts.{present_none}
use Rattle.scanner.proofs.scans.Scanner.find.Goals as goal

pub loop-symbol-preserved-in-Some-accept : goal.loop-symbol-preserved-in-Some-accept
loop-symbol-preserved-in-Some-accept g c = (
  goes_on_with _ _ _ _ _ _ _ _ c.loop-symbol.invariant.0 c.in-Some.code (sym c.loop-symbol-test.ensures) (there _ c.in-Some.ensures c.of.ensures)
      c.in-Some-step.next c.in-Some-step.ensures.value c.in-Some-step.ensures.within c.stay-reading.result c.stay-reading.ensures.stays c.stay-reading.ensures.moves
      c.in-Some-accept.rule c.in-Some-accept.ensures,
  omega arith,
)

pub loop-symbol-preserved : goal.loop-symbol-preserved
loop-symbol-preserved g c = (
  goes_on _ _ _ _ _ _ _ _ c.loop-symbol.invariant.0 c.in-Some.code (sym c.loop-symbol-test.ensures) (there _ c.in-Some.ensures c.of.ensures)
      c.in-Some-step.next c.in-Some-step.ensures.value c.in-Some-step.ensures.within c.stay-reading.result c.stay-reading.ensures.stays c.stay-reading.ensures.moves
      c.in_default-accept.ensures,
  c.loop-symbol.invariant.1,
)

pub returns-after-loop-symbol-clause-token : goal.returns-after-loop-symbol-clause-token
returns-after-loop-symbol-clause-token g c = ends_closed _ _ _ _ _ _ _ _ c.loop-symbol.invariant.0 (sym c.loop-symbol-test.ensures)

pub returns-in_default-clause-token : goal.returns-in_default-clause-token
returns-in_default-clause-token g c = ends_last _ _ _ _ _ _ _ _ c.loop-symbol.invariant.0 (sym c.loop-symbol-test.ensures) (there _ c.in_default.ensures c.of.ensures)

pub returns-in_default-step-clause-token : goal.returns-in_default-step-clause-token
returns-in_default-step-clause-token g c = ends_stuck _ _ _ _ _ _ _ _ c.loop-symbol.invariant.0 c.in-Some.code (sym c.loop-symbol-test.ensures) (there _ c.in-Some.ensures c.of.ensures) (present_none _ (sym c.in_default-step.ensures.value))
