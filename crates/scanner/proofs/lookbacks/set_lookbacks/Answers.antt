use Rattle.std.proofs.Common.{◌-◌, sym, ap, subst, ◌∙◌, arith}
use Rattle.std.proofs.lemmas.List.{get_or_default}
use Rattle.reading.specs.Reading.{start, none, lookback}
use Rattle.scanner.specs.Spots.{Passed}
use Rattle.scanner.proofs.Alike.{going_written}
use Rattle.scanner.proofs.lookbacks.set_lookbacks.Goals as goal

pub loop-number-preserved : goal.loop-number-preserved
loop-number-preserved g c =
    let now = c.loop-number.entries in
    let going = c.loop-number.invariant.2 in
    let here = c.loop-number.invariant.0 in (
      omega (arith, here, c.next-spot.ensures.number),
      omega (arith, here, c.advance-reader.ensures.behind),
      going_written _ now _ c.loop-number.number _ _ _ going c.requires.fit (omega arith) c.advance-reader.result.number c.advance-reader.result.start
          (λ ready. c.advance-reader.ensures.earliest ready.fit ready.stands (ready.starts ∙ ap (start now) (sym here)) (subst (Passed now _) (sym here) ready.passed) ∙ ap (λ n. n - lookback now n) here) (λ ready. (c.advance-reader.ensures.follows ready.fit ready.stands (ready.starts ∙ ap (start now) (sym here)) (subst (Passed now _) (sym here) ready.passed)).0)
          _ (sym (c.entry.view_is ∙ get_or_default now c.loop-number.number c.index-entries-number.result none (omega arith))) _ _ (c.of-entry-inside.ensures ∙ ap (λ n. c.loop-number.number - n) c.get.ensures) c.next-spot.ensures.start,
    )
