use Rattle.std.proofs.Common.{◌≡◌, drop, vec_items}
use Rattle.script.specs.Quoted.{then_read, read_from, quoted_text}
use Rattle.script.proofs.texts.text_of.Given as goal

abbrev pub invariant-loop-i : goal.invariant-loop-i
invariant-loop-i l = quoted_text l.bytes ≡ then_read (vec_items l.text) (read_from (drop l.i l.bytes) l.spot)
