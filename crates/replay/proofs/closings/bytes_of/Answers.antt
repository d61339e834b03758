use Rattle.std.proofs.Common.{◌≡◌, vec_items, subst, IfOk, rules, arith}
use Rattle.std.specs.List.{slice_get}
use Rattle.std.proofs.lemmas.Iterator.{items_from_collect, YieldsList-from_range}
use Rattle.std.proofs.lemmas.Iterator.Consumers.{YieldsList-from_filter_map}
use Rattle.replay.proofs.Bytes.{all_from}
use Rattle.replay.proofs.closings.bytes_of.Goals as goal

pub returns : goal.returns
returns g c =
    let xs = g.S.TextStore.text c.args.store.now in
    let n = c.get.result in
    subst (λ ys. IfOk c.collect.result (λ v. vec_items v ≡ ys)) (all_from xs 0 n (omega arith))
    (items_from_collect _ c.collect.ensures.ran
    (YieldsList-from_filter_map _ (slice_get xs) (YieldsList-from_range 0 n n c.filter_map.ensures.source (omega arith)) c.filter_map.ensures.closure (λ x r q k. search rules)))
