use Rattle.std.proofs.Common.{false, rules, arith, lit<}
use borrow.Author.Tests.{tests}
use Rattle.books.specs.Tables.{closed}
use Rattle.books.specs.Plans.{plan}
use Rattle.books.proofs.Made.{made_at, serves_at}
use Rattle.books.proofs.draft.measured.Measured.closed_states.Goals as goal

pub from_fn-requires : goal.from_fn-requires
from_fn-requires c = (lit< tt, serves_at 128 (λ i q r. search rules) (λ i low. λ a b d e f g. c.requires))

pub returns : goal.returns
returns c = λ s h.
    made_at _ _ (closed (plan c.args.self.now.draft).tables) (λ i y q k. search (rules, tests)) c.from_fn.result false 0 128 c.from_fn.ensures.items.each s (omega arith) h
