use Rattle.std.proofs.Common.{[], ◌∷◌, ◌++◌, get_or, take, string_bytes, sym, ap, ◌∙◌}
use Rattle.std.specs.List.{flat_map}
use Rattle.std.proofs.lemmas.List.{flat_map_more, take_more, take_all}
use Rattle.script.specs.Shown.{shown, escaped}
use Rattle.telling.proofs.Behind.{behind}
use Rattle.telling.proofs.quotes.push_quoted.Goals as goal

pub loop-b-preserved : goal.loop-b-preserved
loop-b-preserved c =
    let bs = c.args.bytes.now in
    let i = c.loop-b.b-index in
    c.in_ok-push_byte.ensures
    ∙ ap (λ xs. xs ++ shown (get_or bs i 0)) c.loop-b.invariant
    ∙ flat_map_more shown (string_bytes c.push.new.self) (take i bs) (get_or bs i 0)
    ∙ ap (λ xs. string_bytes c.push.new.self ++ flat_map shown xs) (sym (take_more bs i 0 c.loop-b-test.true))

pub returns : goal.returns
unfolding lib.Utf8.encode
returns c =
    let bs = c.args.bytes.now in
    let i = c.loop-b.b-index in
    let was = string_bytes c.args.out.now in
    behind was (34 ∷ escaped (take i bs)) (34 ∷ [])
    (behind was (34 ∷ []) (escaped (take i bs)) c.in_ok-push.ensures.bytes c.loop-b.invariant)
    c.in_ok-push-2.ensures.bytes
    ∙ ap (λ xs. was ++ ((34 ∷ escaped xs) ++ (34 ∷ []))) (take_all i bs c.loop-b-test.false)
