use Rattle.std.proofs.Common.{◌≡◌, ◌+◌, drop, Some, Ok, vec_items, sym, ap, ◌∙◌, arith}
use Rattle.std.proofs.lemmas.Grind.{common_steps}
use Rattle.std.proofs.lemmas.List.{take_rest}
use Rattle.script.specs.Quoted.{quoted_text}
use Rattle.script.proofs.Spelt.{text_alone}
use Rattle.script.proofs.texts.text_of.Goals as goal

pub returns-in-Close-clause-read : goal.returns-in-Close-clause-read
returns-in-Close-clause-read c =
    let bytes = c.args.bytes.now in
    let quoted : quoted_text bytes ≡ Ok (vec_items c.loop-i.text, drop (c.loop-i.i + 1) bytes) = grind (arith, common_steps) in
    text_alone bytes _ quoted ∙ ap (λ rest. Some (vec_items c.loop-i.text, rest)) (sym (take_rest bytes (c.loop-i.i + 1)))
