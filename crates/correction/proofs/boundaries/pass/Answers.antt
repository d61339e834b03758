use Rattle.std.proofs.Common.{◌≡◌, ◌+◌, ◌∙◌, length, ap, arith}
use Rattle.reading.specs.Reading.{at}
use Rattle.scanner.proofs.Starts.{at_part, sum_reach}
use Rattle.correction.proofs.Sums.{stands_next, passing_more}
use Rattle.correction.proofs.boundaries.pass.Goals as goal

pub loop-entry-preserved : goal.loop-entry-preserved
loop-entry-preserved g c =
    let es = c.args.entries.now in
    let from = c.args.from.to.at.number in
    let here = c.loop-entry.at in
    let x = c.entry-item.result in
    let next = c.next-at.ensures in
    let there : here.number ≡ c.number-number.result + c.loop-entry.entry-index = omega (arith, c.loop-entry.invariant.0) in
    let is : at es here.number ≡ x =
    ap (at es) there ∙ at_part es c.number-number.result (length es) c.loop-entry.entry-index x c.loop-entry-test.true c.entry-item.is in (
      omega arith,
      λ fit s.
          let so_far = c.loop-entry.invariant.1 fit s in
          let reads = sum_reach es fit here.number here.start so_far.0.0 x.reading c.reach.result (ap (λ y. y.reading) is) c.reach.ensures in (
            stands_next es fit (record { at = here; mode = c.loop-entry.mode }) (record { at = c.next-at.result; mode = c.entry.inside.mode }) so_far.0 x is next.number next.start (ap (λ e. e.mode) c.entry.view_is),
            passing_more es from c.get-place.result c.args.from.reach here.number c.loop-entry.reach c.next-at.result.number c.max-reach.result so_far.1 next.number (omega (arith, so_far.0.0)) (omega arith) (omega (arith, reads)),
          ),
    )
