use Rattle.std.proofs.Common.{rules}
use Rattle.house_sheet.proofs.House.{worked_under}
use Rattle.house_sheet.proofs.house_books.Goals as goal

pub returns-clause-worked : goal.returns-clause-worked
returns-clause-worked c = search (rules, worked_under)
