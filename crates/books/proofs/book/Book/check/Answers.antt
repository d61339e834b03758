use Rattle.std.proofs.Common.{◌≡◌, ℕ, ◌<◌, false, get_or, is_some, None, sym, ap, ◌∙◌, subst}
use Rattle.books.specs.declared.fault.BookFault.TheVariants.{Class, Step, Accept, Rule, Start}
use Rattle.books.specs.Tables.{closed}
use Rattle.books.specs.Sound.{Sound}
use Rattle.books.specs.Check.{Plan, fault}
use Rattle.books.specs.Plans.{plan, held}
use Rattle.books.proofs.Facts.{answered, sound_from_answers}
use Rattle.books.proofs.Decides.{classes_first, question_exits, passes}
use Rattle.books.proofs.book.Book.check.Goals as goal
use Rattle.books.proofs.book.Book.check.Goals.{After-closed_states, at-returns}

pub returns-in_err-yes_or : goal.returns-in_err-yes_or
returns-in_err-yes_or c =
    let classes = classes_first c.args.draft c.in_ok-measured.measured c.in_ok-measured.ensures in
    question_exits Class _ _ _ _ _ c.from_residual-in_err-yes_or.result _ classes c.wrong_class.ensures c.in_err-yes_or.ensures c.from_residual-in_err-yes_or.ensures.1

pub returns-in_err-yes_or-2 : goal.returns-in_err-yes_or-2
returns-in_err-yes_or-2 c =
    let classes = classes_first c.args.draft c.in_ok-measured.measured c.in_ok-measured.ensures in
    let steps = passes Class _ _ _ _ classes c.wrong_class.ensures c.in_ok-yes_or.ensures in
    question_exits Step _ _ _ _ _ c.from_residual-in_err-yes_or-2.result _ steps c.wrong_step.ensures c.in_err-yes_or-2.ensures c.from_residual-in_err-yes_or-2.ensures.1

pub returns-in_err-yes_or-3 : goal.returns-in_err-yes_or-3
returns-in_err-yes_or-3 c =
    let classes = classes_first c.args.draft c.in_ok-measured.measured c.in_ok-measured.ensures in
    let steps = passes Class _ _ _ _ classes c.wrong_class.ensures c.in_ok-yes_or.ensures in
    let accepts = passes Step _ _ _ _ steps c.wrong_step.ensures c.in_ok-yes_or-2.ensures in
    question_exits Accept _ _ _ _ _ c.from_residual-in_err-yes_or-3.result _ accepts c.wrong_accept.ensures c.in_err-yes_or-3.ensures c.from_residual-in_err-yes_or-3.ensures.1

pub returns-in_err-yes_or-4 : goal.returns-in_err-yes_or-4
returns-in_err-yes_or-4 c =
    let classes = classes_first c.args.draft c.in_ok-measured.measured c.in_ok-measured.ensures in
    let steps = passes Class _ _ _ _ classes c.wrong_class.ensures c.in_ok-yes_or.ensures in
    let accepts = passes Step _ _ _ _ steps c.wrong_step.ensures c.in_ok-yes_or-2.ensures in
    let rules = passes Accept _ _ _ _ accepts c.wrong_accept.ensures c.in_ok-yes_or-3.ensures in
    question_exits Rule _ _ _ _ _ c.from_residual-in_err-yes_or-4.result _ rules c.wrong_rule.ensures c.in_err-yes_or-4.ensures c.from_residual-in_err-yes_or-4.ensures.1

pub returns-in_err-yes_or-5 : goal.returns-in_err-yes_or-5
returns-in_err-yes_or-5 c =
    let classes = classes_first c.args.draft c.in_ok-measured.measured c.in_ok-measured.ensures in
    let steps = passes Class _ _ _ _ classes c.wrong_class.ensures c.in_ok-yes_or.ensures in
    let accepts = passes Step _ _ _ _ steps c.wrong_step.ensures c.in_ok-yes_or-2.ensures in
    let rules = passes Accept _ _ _ _ accepts c.wrong_accept.ensures c.in_ok-yes_or-3.ensures in
    let starts = passes Rule _ _ _ _ rules c.wrong_rule.ensures c.in_ok-yes_or-4.ensures in
    question_exits Start _ _ _ _ _ c.from_residual-in_err-yes_or-5.result _ starts c.wrong_start.ensures c.in_err-yes_or-5.ensures c.from_residual-in_err-yes_or-5.ensures.1

-- after seven yeses there is no fault
none : (c : After-closed_states) → fault (plan c.args.draft) ≡ None
none c =
    let classes = classes_first c.args.draft c.in_ok-measured.measured c.in_ok-measured.ensures in
    let steps = passes Class _ _ _ _ classes c.wrong_class.ensures c.in_ok-yes_or.ensures in
    let accepts = passes Step _ _ _ _ steps c.wrong_step.ensures c.in_ok-yes_or-2.ensures in
    let rules = passes Accept _ _ _ _ accepts c.wrong_accept.ensures c.in_ok-yes_or-3.ensures in
    let starts = passes Rule _ _ _ _ rules c.wrong_rule.ensures c.in_ok-yes_or-4.ensures in
    passes Start _ _ _ _ starts c.wrong_start.ensures c.in_ok-yes_or-5.ensures

pub invariant_of-result : goal.invariant_of-result
invariant_of-result c =
    let same : plan c.in_ok-measured.measured.draft ≡ held c.copied.result = sym c.copied.ensures in
    record {
      sound = subst (λ (p : Plan). is_some (fault p) ≡ false) (ap plan (sym c.in_ok-measured.ensures) ∙ same) (ap is_some (none c));
      flagged = subst (λ (p : Plan). (s : ℕ) → s < 128 → get_or c.closed_states.result s false ≡ closed p.tables s) same c.closed_states.ensures;
    }

pub returns : goal.returns
returns c =
    let same : held c.copied.result ≡ plan c.args.draft = c.copied.ensures ∙ ap plan c.in_ok-measured.ensures in
    let sound = none (at-returns c).After-closed_states in (
      sound,
      ap (λ (p : Plan). p.tables) same,
      subst (λ (p : Plan). Sound p.tables) (sym same) (sound_from_answers (plan c.args.draft) (answered (plan c.args.draft) sound)),
    )
