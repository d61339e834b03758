-- In an arm the word has the bytes of a text; two arms go by their first byte.
use Rattle.std.proofs.Common.{◌≡◌, ℕ, List, length, codes, sym, ap, arith, rules}
use Rattle.std.proofs.lemmas.Slice.Eq.{HasBytesAt, text_from_reads}
use Rattle.std.specs.Option.{ok_or}
use Rattle.script.specs.declared.wrong.Wrong.TheVariants.{Command}
use Rattle.script.specs.Names.{name_of}
use Rattle.script.proofs.names.NameTryFromRefSliceU8.try_from.Goals as goal

known : (word text : List ℕ) → length word ≡ length text → HasBytesAt word 0 text → ok_or (name_of text) Command ≡ ok_or (name_of word) Command
known word text same bytes = ap (λ w. ok_or (name_of w) Command) (sym (text_from_reads word text same bytes))

pub returns-in-memory : goal.returns-in-memory
returns-in-memory c = known c.args.word.now (codes "memory") (omega arith) (search rules)

pub returns-in-116-2 : goal.returns-in-116-2
returns-in-116-2 c = known c.args.word.now (codes "token-book") (omega arith) (search rules)

pub returns-in-108 : goal.returns-in-108
returns-in-108 c = known c.args.word.now (codes "line-book") (omega arith) (search rules)

pub returns-in-correct : goal.returns-in-correct
returns-in-correct c = known c.args.word.now (codes "correct") (omega arith) (search rules)
