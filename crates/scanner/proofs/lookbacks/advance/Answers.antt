use Rattle.std.proofs.Common.{◌≡◌, ◌+◌, ap, ◌∙◌, inl, inr, arith}
use Rattle.reading.specs.Reading.{at}
use Rattle.scanner.proofs.Starts.{at_part}
use Rattle.scanner.proofs.Pointing.{points_on, reads_so_far, points_to, points_to_earliest}
use Rattle.scanner.proofs.lookbacks.advance.Goals as goal

pub loop-entry-preserved : goal.loop-entry-preserved
loop-entry-preserved g c =
    let es = c.args.entries.now in
    let there : c.loop-entry.spot.number ≡ c.get-from.result + c.loop-entry.entry-index = omega (arith, c.loop-entry.invariant.0) in
    let is : at es c.loop-entry.spot.number ≡ c.entry-item.result = ap (at es) there ∙ at_part es c.get-from.result c.get-to.result c.loop-entry.entry-index c.entry-item.result c.loop-entry-test.true c.entry-item.is in (
      omega (arith, c.loop-entry.invariant.0, c.next-spot.ensures.number),
      λ fit s passed.
          let so_far = c.loop-entry.invariant.1 fit s passed in
          points_on es fit c.get-place.result c.loop-entry.spot.number c.loop-entry.spot.start so_far.0 so_far.1 c.entry-item.result is c.reach.result c.reach.ensures c.if-place-reach.false
          c.next-spot.result.number c.next-spot.result.start c.next-spot.ensures.number c.next-spot.ensures.start,
    )

pub returns-after-loop-entry-clause-earliest : goal.returns-after-loop-entry-clause-earliest
returns-after-loop-entry-clause-earliest g c fit r t p =
    let es = c.args.entries.now in
    let so_far = c.loop-entry.invariant.1 fit r (λ i h. omega (arith, p i h, t, c.get-place.ensures)) in
    points_to_earliest es fit c.get-place.result c.loop-entry.spot.number c.loop-entry.spot.start so_far.0 so_far.1 c.args.target.number (c.get-place.ensures ∙ t) (omega arith) (inl (omega arith))

pub returns-then-place-reach-clause-follows : goal.returns-then-place-reach-clause-follows
returns-then-place-reach-clause-follows g c fit r t p =
    let es = c.args.entries.now in
    let there : c.loop-entry.spot.number ≡ c.get-from.result + c.loop-entry.entry-index = omega (arith, c.loop-entry.invariant.0) in
    let is : at es c.loop-entry.spot.number ≡ c.entry-item.result = ap (at es) there ∙ at_part es c.get-from.result c.get-to.result c.loop-entry.entry-index c.entry-item.result c.loop-entry-test.true c.entry-item.is in
    let so_far = c.loop-entry.invariant.1 fit r (λ i h. omega (arith, p i h, t, c.get-place.ensures)) in
    let reads = reads_so_far es fit c.get-place.result c.loop-entry.spot.number c.loop-entry.spot.start so_far.0 so_far.1 c.entry-item.result is c.reach.result c.reach.ensures c.if-place-reach.true in
    (so_far.0, points_to es fit c.get-place.result c.loop-entry.spot.number c.loop-entry.spot.start so_far.0 so_far.1 c.args.target.number (c.get-place.ensures ∙ t) (omega arith) (inr reads))

pub returns-then-place-reach-clause-earliest : goal.returns-then-place-reach-clause-earliest
returns-then-place-reach-clause-earliest g c fit r t p =
    let es = c.args.entries.now in
    let there : c.loop-entry.spot.number ≡ c.get-from.result + c.loop-entry.entry-index = omega (arith, c.loop-entry.invariant.0) in
    let is : at es c.loop-entry.spot.number ≡ c.entry-item.result = ap (at es) there ∙ at_part es c.get-from.result c.get-to.result c.loop-entry.entry-index c.entry-item.result c.loop-entry-test.true c.entry-item.is in
    let so_far = c.loop-entry.invariant.1 fit r (λ i h. omega (arith, p i h, t, c.get-place.ensures)) in
    let reads = reads_so_far es fit c.get-place.result c.loop-entry.spot.number c.loop-entry.spot.start so_far.0 so_far.1 c.entry-item.result is c.reach.result c.reach.ensures c.if-place-reach.true in
    points_to_earliest es fit c.get-place.result c.loop-entry.spot.number c.loop-entry.spot.start so_far.0 so_far.1 c.args.target.number (c.get-place.ensures ∙ t) (omega arith) (inr reads)
