use Rattle.std.proofs.Common.{◌≡◌, ◌+◌, ◌-◌, ◌<◌, ◌≤◌, ◌⊎◌, length, refl, sym, ap, ◌∙◌, inl, inr, arith}
use Rattle.std.proofs.lemmas.List.{take-set-le, get_or_default}
use Rattle.reading.specs.Reading.{none}
use Rattle.reading.proofs.Giving.{giving_length}
use Rattle.correction.proofs.Gives.{turning_begins, turning_written, turning_ends}
use Rattle.correction.proofs.lookbacks.give_lookbacks.Goals as goal
use Rattle.correction.proofs.lookbacks.give_lookbacks.Goals.{then-get-lookback, else-get-lookback, else-loop-number-test, then-loop-number-test+then-beyond}

pub loop-number-init : goal.loop-number-init
loop-number-init g c = (
  omega arith,
  omega arith,
  omega arith,
  refl,
  λ new r s k a. turning_begins _ new _ _ _ a c.get-from.result c.args.first.start c.get-from.ensures (omega arith) s _ r k,
)

pub loop-number-preserved : goal.loop-number-preserved
loop-number-preserved g c =
    let now = c.loop-number.entries in
    let i = c.loop-number.number in
    let here = c.loop-number.invariant.0 in
    let read = c.get-in-loop-number-2.ensures in
    let put = c.of-entry-inside.ensures in
    let way : ((c.entry.inside.lookback ≡ c.of-entry-inside.result) × (c.if-get-lookback.changed ≡ c.loop-number.changed)) ⊎ ((c.entry.inside.lookback ≡ c.of-entry-inside.result → ⊥) × (c.if-get-lookback.changed ≡ i + 1)) =
    elim c.if-get-lookback.branch [
      | then-get-lookback w ↦ inr ((λ s. w.if-get-lookback.true (read ∙ s ∙ put)), w.changed-is)
      | else-get-lookback w ↦ inl (sym read ∙ w.if-get-lookback.false ∙ sym put, w.changed-is)
    ] in (
      omega (arith, here, c.next-spot.ensures.number),
      omega (arith, here, c.advance-reader.ensures.behind),
      elim c.if-get-lookback.branch [ then-get-lookback w ↦ omega (arith, w.changed-is) | else-get-lookback w ↦ omega (arith, w.changed-is) ],
      take-set-le c.args.first.number now i _ (omega arith) ∙ c.loop-number.invariant.3,
      λ new r s k a.
          turning_written _ new _ _ _ a now i c.loop-number.spot.start c.loop-number.reader.number c.loop-number.reader.start c.loop-number.changed (c.loop-number.invariant.4 new r s k a) (omega arith)
          c.loop-number.spot.number c.advance-reader.result.number c.advance-reader.result.start here c.advance-reader.ensures.follows
          _ (sym (c.entry.view_is ∙ get_or_default now i c.index-entries-number.result none (omega arith))) c.next-spot.result.start c.of-entry-inside.result c.next-spot.ensures.start
          (c.of-entry-inside.ensures ∙ ap (λ n. i - n) c.get-in-loop-number.ensures) c.if-get-lookback.changed way,
    )

pub returns-clause-given : goal.returns-clause-given
returns-clause-given g c new r s a =
    let all = c.loop-number.invariant.4 new r s (omega arith) a in
    let count = giving_length new c.args.entries.now a.alike c.loop-number.entries c.loop-number.number c.loop-number.reader.number all.giving in
    let enough : c.loop-number.number < length new → c.args.limit ≤ c.loop-number.spot.start = λ h. elim c.loop-number-test.branch [
      | else-loop-number-test w ↦ absurd (omega (arith, count, w.loop-number-test.false))
      | then-loop-number-test+then-beyond w ↦ omega (arith, w.if-beyond.true)
    ] in
    turning_ends c.args.entries.now new c.args.kept c.args.first.number c.args.reader.number a c.loop-number.entries c.loop-number.number c.loop-number.spot.start c.loop-number.reader.number c.loop-number.reader.start c.loop-number.changed all
    c.args.limit c.args.first.number (omega (arith, c.loop-number.auto.number)) (omega (arith, count, c.loop-number.auto.number-end (omega arith))) enough
    c.of.result (c.of.ensures ∙ c.saturating_sub.ensures ∙ ap (λ n. c.loop-number.changed - n) c.get-2.ensures)
