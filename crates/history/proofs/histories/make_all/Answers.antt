use Rattle.std.proofs.Common.{◌≡◌, [], map, length, vec_items, ap, subst, arith}
use Rattle.std.proofs.lemmas.List.{nil_from_length}
use Rattle.books.specs.Meaning.{tables}
use Rattle.requests.specs.Plain.{asked, answered}
use Rattle.requests.specs.Sheets.{History}
use Rattle.sheet.specs.Lists.{tokens_of, lines_of}
use Rattle.std.specs.Vec.Iter.{into_iter_items}
use Rattle.history.proofs.Going.{Going, going_none, going_more, going_all}
use Rattle.history.proofs.histories.make_all.Goals as goal

pub push_reserved-requires : goal.push_reserved-requires
push_reserved-requires g c = omega (arith, c.loop-request.invariant.2.enough, ap length c.in-Some.ensures.steps.0)

pub loop-request-init : goal.loop-request-init
loop-request-init g c =
    let becomes = c.into_iter-request-iterator.ensures.into_iter_gives in (
      tt,
      tt,
      going_none g.S.TextStore.text g.S.TextStore.room c.args.sheet (into_iter_items c.into_iter-request-iterator.result) c.args.answers c.requires.right c.requires.none
          (omega (arith, c.args.answers.ok.0, ap length c.requires.none, ap length becomes.0, c.args.requests.ok.0, c.requires.enough)),
    )

pub loop-request-preserved : goal.loop-request-preserved
loop-request-preserved g c =
    let text = g.S.TextStore.text in
    let room = g.S.TextStore.room in
    let all = into_iter_items c.into_iter-request-iterator.result in
    let go = subst (λ left. Going text room c.args.sheet all c.loop-request.sheet c.loop-request.answers c.loop-request.yielded left) c.in-Some.ensures.steps.0 c.loop-request.invariant.2 in (
      tt,
      tt,
      going_more text room c.args.sheet all c.loop-request.sheet c.make-answer.new.sheet c.loop-request.answers c.push_reserved.new.self c.loop-request.yielded (into_iter_items c.next.new.self) c.in-Some.request c.make-answer.result
          go c.make-answer.ensures.made c.make-answer.ensures.kept c.make-answer.ensures.room c.push_reserved.ensures.items c.push_reserved.ensures.len c.push_reserved.ensures.capacity,
    )

pub returns : goal.returns
returns g c =
    let text = g.S.TextStore.text in
    let room = g.S.TextStore.room in
    let h = c.args.sheet in
    let k = c.loop-request.sheet in
    let go = c.loop-request.invariant.2 in
    let left = into_iter_items c.loop-request.request-iterator in
    let none : left ≡ [] = nil_from_length left (omega (arith, c.in-None.ensures.steps.0, c.loop-request.request-iterator.rest.ok.0)) in
    record {
      history = subst (λ rs. History (tables h.tokens.book) (tables h.lines.book) (room h.store) (text h.store) (map asked rs) (map answered (vec_items c.loop-request.answers)) (text k.store) (tokens_of k) (lines_of k)) c.into_iter-request-iterator.ensures.into_iter_gives.0
          (going_all text room h _ k c.loop-request.answers c.loop-request.yielded left go none);
      room = go.same_room;
      kept = go.kept;
    }
