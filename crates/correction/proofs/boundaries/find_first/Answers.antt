use Rattle.std.proofs.Common.{◌≡◌, ◌<◌, length, ◌∙◌, sym, ap, arith}
use Rattle.std.proofs.lemmas.List.{get_or_read}
use Rattle.reading.specs.Reading.{none, at, reach}
use Rattle.reading.specs.Report.{first}
use Rattle.reading.proofs.First.{short_more}
use Rattle.scanner.proofs.Starts.{sum_reach}
use Rattle.correction.proofs.Sums.{stands_next, first_found}
use Rattle.correction.proofs.boundaries.find_first.Goals as goal
use Rattle.correction.proofs.boundaries.find_first.Goals.{else-loop-entry-test, then-loop-entry-test+then-place-far}

pub loop-entry-preserved : goal.loop-entry-preserved
loop-entry-preserved g c =
    let es = c.args.entries.now in
    let here = c.loop-entry.at in
    let x = c.entry-item.result in
    let is : at es here.number ≡ x = ap (at es) c.loop-entry.invariant.0 ∙ sym (get_or_read es c.loop-entry.entry-index x c.loop-entry-test.true c.entry-item.is none) in
    let next = c.next-at.ensures in (
      omega arith,
      λ fit.
          let so_far = c.loop-entry.invariant.1 fit in
          let reads = sum_reach es fit here.number here.start so_far.0.0 x.reading c.reach-far.result (ap (λ y. y.reading) is) c.reach-far.ensures in (
            stands_next es fit (record { at = here; mode = c.loop-entry.mode }) (record { at = c.next-at.result; mode = c.entry.inside.mode }) so_far.0 x is next.number next.start (ap (λ e. e.mode) c.entry.view_is),
            λ i h. short_more es here.number c.get-place.result so_far.1 (omega (arith, reads)) i (omega arith),
          ),
    )

pub returns-clause-first : goal.returns-clause-first
returns-clause-first g c fit =
    let es = c.args.entries.now in
    let n = c.loop-entry.at.number in
    let all = c.loop-entry.invariant.1 fit in
    let reads : n < length es → c.get-place.result < reach es n = λ h. elim c.loop-entry-test.branch [
      | else-loop-entry-test w ↦ absurd (omega (arith, w.loop-entry-test.false))
      | then-loop-entry-test+then-place-far w ↦
          let x = w.entry-item.result in
          let is : at es n ≡ x = ap (at es) c.loop-entry.invariant.0 ∙ sym (get_or_read es c.loop-entry.entry-index x w.loop-entry-test.true w.entry-item.is none) in
          omega (arith, sum_reach es fit n c.loop-entry.at.start all.0.0 x.reading w.reach-far.result (ap (λ y. y.reading) is) w.reach-far.ensures, w.if-place-far.true)
    ] in
    (first_found es n c.get-place.result all.1 (omega arith) reads ∙ ap (first es) c.get-place.ensures, all.0)
