use Rattle.std.proofs.Common.{[], ◌∷◌, ◌++◌, string_bytes, ap, ◌∙◌, ap₂}
use Rattle.telling.proofs.Behind.{behind}
use Rattle.telling.proofs.quotes.push_hex.Goals as goal

pub returns : goal.returns
unfolding lib.Utf8.encode
returns c =
    let was = string_bytes c.args.out.now in
    let h = c.hex_char.result in
    let l = c.hex_char-2.result in
    behind was (92 ∷ 120 ∷ h ∷ []) (l ∷ [])
    (behind was (92 ∷ 120 ∷ []) (h ∷ [])
    (behind was (92 ∷ []) (120 ∷ []) c.in_ok-push.ensures.bytes c.in_ok-push-2.ensures.bytes)
    (c.in_ok-push-3.ensures.bytes ∙ ap (λ xs. string_bytes c.push-2.new.self ++ xs) (c.in_ok-push-3.ensures.ascii c.hex_char.ensures.ascii)))
    (c.in_ok-push-4.ensures.bytes ∙ ap (λ xs. string_bytes c.push-3.new.self ++ xs) (c.in_ok-push-4.ensures.ascii c.hex_char-2.ensures.ascii))
    ∙ ap₂ (λ x y. was ++ (92 ∷ 120 ∷ x ∷ y ∷ [])) c.hex_char.ensures.value c.hex_char-2.ensures.value
