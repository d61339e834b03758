use Rattle.std.proofs.Common.{◌≡◌, ◌+◌, ◌-◌, drop, sym, ap, ◌∙◌, arith}
use Rattle.std.proofs.lemmas.List.{length-take, length-drop}
use Rattle.reading.specs.Reading.{start}
use Rattle.reading.proofs.Lists.{start_more, start_up}
use Rattle.scanner.proofs.Starts.{at_part}
use Rattle.correction.proofs.lookbacks.look_back.Goals as goal

pub loop-entry-preserved : goal.loop-entry-preserved
loop-entry-preserved g c stands =
    let es = c.args.entries.now in
    let f = c.saturating_sub-first.result in
    let k = c.loop-entry.entry-index in
    let is = at_part es f c.number-number.result k c.entry-item.result c.loop-entry-test.true c.entry-item.is ∙ sym c.entry-in-loop-entry.view_is in
    let next : f + (k + 1) ≡ f + k + 1 = omega arith in
    omega (arith, c.loop-entry.invariant stands, ap (λ e. e.length) is, start_more es (f + k), ap (start es) next, start_up es f (f + k) (omega arith))

pub returns-clause-stands : goal.returns-clause-stands
returns-clause-stands g c stands =
    let es = c.args.entries.now in
    let f = c.saturating_sub-first.result in
    let k = c.loop-entry.entry-index in
    let n = c.number-number.result in
    let long = length-take (n - f) (drop f es) in
    let all : f + k ≡ c.args.from.now.at.number = omega (arith, long, length-drop f es, c.loop-entry.auto.entry-index-end, c.loop-entry-test.false) in
    omega (arith, c.loop-entry.invariant stands, ap (start es) all, stands, start_up es f (f + k) (omega arith), ap (start es) c.of.ensures)
