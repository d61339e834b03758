use Rattle.std.proofs.Common.{arith}
use Rattle.script.proofs.Back.{reads_back, quoted_back}
use Rattle.telling.proofs.lines.text_line.Goals as goal

pub returns-clause-back : goal.returns-clause-back
returns-clause-back c = λ rest. reads_back c.args.text.now rest (λ k. omega (arith, c.type_inv.text k))

pub returns-clause-quoted : goal.returns-clause-quoted
returns-clause-quoted c = λ rest. quoted_back c.args.text.now rest (λ k. omega (arith, c.type_inv.text k))

pub returns-in_err-format-clause-back : goal.returns-in_err-format-clause-back
returns-in_err-format-clause-back c = λ rest. reads_back c.args.text.now rest (λ k. omega (arith, c.type_inv.text k))

pub returns-in_err-format-clause-quoted : goal.returns-in_err-format-clause-quoted
returns-in_err-format-clause-quoted c = λ rest. quoted_back c.args.text.now rest (λ k. omega (arith, c.type_inv.text k))
