use Rattle.std.proofs.Common.{◌≡◌, ◌+◌, ap, ap₂, sym, ◌∙◌, arith}
use Rattle.std.proofs.lemmas.List.{get_or_read}
use Rattle.reading.specs.Reading.{none, at, start}
use Rattle.reading.proofs.Lists.{start_more, start_within}
use Rattle.table.proofs.Rows.{rows_more}
use Rattle.table.proofs.tabulate.Given as given
use Rattle.table.proofs.tabulate.Goals as goal

-- the entry of this turn
here : (g : given.Over) (c : goal.After-get-start g) → c.index-entries-number.result ≡ at c.args.entries.now c.loop-number.number
here g c = get_or_read c.args.entries.now c.loop-number.number c.index-entries-number.result c.loop-number-test.true c.index-entries-number.is none

-- where the next entry starts
next : (g : given.Over) (c : goal.After-get-start g) → c.loop-number.start + c.get-start.result ≡ start c.args.entries.now (c.loop-number.number + 1)
next g c =
    ap₂ ◌+◌ c.loop-number.invariant.0 (c.get-start.ensures ∙ ap (λ e. e.length) (c.entry.view_is ∙ here g c))
    ∙ sym (start_more c.args.entries.now c.loop-number.number)

pub overflow_add-start : goal.overflow_add-start
overflow_add-start g c = record { fits = omega (arith, next g c, start_within c.args.entries.now (c.loop-number.number + 1)) }

pub loop-number-preserved : goal.loop-number-preserved
loop-number-preserved g c =
    let es = c.args.entries.now in
    let j = c.loop-number.number in
    let told = c.in_ok-push_row.ensures in
    let more = rows_more es j in
    let from = c.loop-number.invariant.0 in
    let entry = here g c in
    (next g c, cc)
