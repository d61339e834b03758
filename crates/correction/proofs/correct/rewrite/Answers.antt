use Rattle.std.proofs.Common.{◌≡◌, ◌+◌, ◌-◌, ◌^◌, ◌<◌, ◌≤◌, ◌++◌, length, take, drop, refl, ◌∙◌, arith}
use Rattle.std.proofs.lemmas.List.{length-append, length-take, take_at, take-take, take-append-le}
use Rattle.std.proofs.lemmas.Slice.{take-put_mid_below}
use borrow.Rule.Slice.PartMut.{put_mid}
use Rattle.books.specs.Meaning.{tables}
use Rattle.books.proofs.Facts.{book_sound}
use Rattle.correction.proofs.Runs.{whole_put}
use Rattle.correction.proofs.Plans.{added_within, again, brings}
use Rattle.correction.proofs.correct.rewrite.Goals as goal

pub returns-clause-head : goal.returns-clause-head
returns-clause-head g c =
    let memory = c.args.memory.now in
    let part = c.splice.new.part in
    let given = c.give_lookbacks-tail.new.entries in
    let number = c.number-number.result in
    let entries = number + c.get-added.result + (c.args.count - c.get-old.result) in
    let whole = put_mid number (length memory - number) memory part in
    let long : length (take entries whole) ≡ entries = simp (length-append, length-take) (omega arith) in
    let is : c.of-2.result ≡ c.args.plan.first.at.number = omega arith in
    rw is (
    take-append-le c.args.plan.first.at.number given (drop entries whole) (omega (arith, long, c.give_lookbacks-tail.auto.entries)) ∙
    c.give_lookbacks-tail.ensures.head ∙
    take-take c.args.plan.first.at.number entries whole (omega arith) ∙
    take-put_mid_below number (length memory - number) memory part c.args.plan.first.at.number (omega arith) (omega arith)
    )

pub returns-clause-brought : goal.returns-clause-brought
returns-clause-brought g c e xs met planned =
    let t = tables c.args.scanner.now.book.now in
    let sound = book_sound c.args.scanner.now.book.now in
    let ys = g.S.Symbols.codes c.args.scanner.now.symbols.now in
    let memory = c.args.memory.now in
    let plan = c.args.plan in
    let es = take c.args.count memory in
    let part = c.splice.new.part in
    let number = c.number-number.result in
    let added = c.get-added.result in
    let old = c.get-old.result in
    let kept = c.args.count - old in
    let entries = number + added + kept in
    let whole = put_mid number (length memory - number) memory part in
    let small : length memory < 2 ^ 64 = omega arith in
    let fresh = again t sound e xs ys es (length memory) small met plan planned in
    let enough : added ≤ length fresh = omega (arith, added_within t sound e xs ys es (length memory) small met plan planned) in
    let put : take entries whole ≡ take plan.first.at.number es ++ (take plan.meeting.added fresh ++ drop plan.meeting.old es) =
    cc (whole_put memory part fresh number (old - number) old added kept c.args.count entries (omega arith) (omega arith) (omega arith) refl (omega arith) (c.splice.ensures enough)) in
    let long : length (take entries whole) ≡ entries = simp (length-append, length-take) (omega arith) in
    let size : length c.give_lookbacks-tail.new.entries ≡ c.of.result = omega (arith, long, c.give_lookbacks-tail.auto.entries) in
    rw (take_at c.give_lookbacks-tail.new.entries (drop entries whole) c.of.result size)
    (brings t sound e xs ys es (length memory) small met plan planned _ put _ _ _ (omega arith) c.give_lookbacks-tail.ensures.given c.of.result (omega (arith, long)) _ cc)
