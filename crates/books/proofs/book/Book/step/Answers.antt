use Rattle.std.proofs.Common.{◌≡◌, ◌∙◌, ap, arith, rules}
use Rattle.std.proofs.lemmas.List.{get_or_default}
use Rattle.books.specs.Tables.{step, present}
use Rattle.books.specs.Meaning.{tables}
use Rattle.books.proofs.Facts.{book_step_place, book_step_within}
use Rattle.books.proofs.book.Book.step.Goals as goal

pub overflow_mul-place : goal.overflow_mul-place
overflow_mul-place c =
    let place = book_step_place c.args.self.now c.args.state c.args.code c.requires (omega arith) in search rules

pub overflow_add-place : goal.overflow_add-place
overflow_add-place c =
    let place = book_step_place c.args.self.now c.args.state c.args.code c.requires (omega arith) in search rules

pub at-requires : goal.at-requires
at-requires c =
    let place = book_step_place c.args.self.now c.args.state c.args.code c.requires (omega arith) in search rules

pub returns : goal.returns
returns c =
    let place = book_step_place c.args.self.now c.args.state c.args.code c.requires (omega arith) in
    let value : c.present.result ≡ present (step (tables c.args.self.now) c.args.state c.args.code) =
    c.present.ensures ∙ ap present (c.at.ensures ∙ get_or_default _ _ 0 255 place.0) in
    record { value = value; within = rw value (book_step_within c.args.self.now c.args.state c.args.code c.requires (omega arith)) }
