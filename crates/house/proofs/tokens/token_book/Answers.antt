-- The check asks all its questions of these tables and says yes, by computation. What is promised of the tables holds of the book that has them.
use Rattle.std.proofs.Common.{refl, sym, subst}
use Rattle.books.specs.Check.{fault}
use Rattle.house.specs.House.{house_tokens}
use Rattle.house.specs.Meaning.{ClassesRight, TokensByRules, StepsWhileMatching}
use Rattle.house.specs.Sheets.{WorkedSheets}
use Rattle.house.proofs.Sheets.{worked_sheets}
use Rattle.house.proofs.TokenMeaning.{classes_right, rules_apart, tokens_by_rules, steps_while_matching}
use Rattle.house.proofs.tokens.token_book.Goals as goal

pub sound-requires : goal.sound-requires
unfolding fault
sound-requires c = refl

pub returns : goal.returns
unfolding house_tokens
returns c =
    let value = c.sound.ensures in
    record {
      value = value;
      classes = subst ClassesRight (sym value) classes_right;
      apart = rules_apart;
      tokens = subst TokensByRules (sym value) tokens_by_rules;
      steps = subst StepsWhileMatching (sym value) steps_while_matching;
      sheets = subst WorkedSheets (sym value) worked_sheets;
    }
