use Rattle.books.specs.declared.fault.BookFault.TheVariants.{Count, Length}
use Rattle.books.specs.Plans.{plan}
use Rattle.books.proofs.Decides.{counts_first, question_exits, passes}
use Rattle.books.proofs.draft.questions.Draft+ref+slice+u8.measured.Goals as goal

pub returns-in_err-yes_or : goal.returns-in_err-yes_or
returns-in_err-yes_or c =
    question_exits Count _ _ _ _ _ c.from_residual.result _ (counts_first (plan c.args.self)) c.wrong_count.ensures c.in_err-yes_or.ensures c.from_residual.ensures.1

pub returns-in_err-yes_or-2 : goal.returns-in_err-yes_or-2
returns-in_err-yes_or-2 c =
    let lengths = passes Count _ _ _ _ (counts_first (plan c.args.self)) c.wrong_count.ensures c.in_ok-yes_or.ensures in
    question_exits Length _ _ _ _ _ c.from_residual-in_err-yes_or-2.result _ lengths c.wrong_length.ensures c.in_err-yes_or-2.ensures c.from_residual-in_err-yes_or-2.ensures.1
