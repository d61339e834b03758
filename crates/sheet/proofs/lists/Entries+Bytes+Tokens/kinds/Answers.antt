use Rattle.std.proofs.Common.{ap, ◌∙◌}
use Rattle.reading.specs.Reading.{kinds}
use Rattle.sheet.proofs.Codes.{kinds_before}
use Rattle.sheet.proofs.lists.Entries+Bytes+Tokens.kinds.Goals as goal

pub returns : goal.returns
returns c = kinds_before c.list-tokens.result.now c.saturating_sub-before_end.result c.saturating_sub-before_end.ensures ∙ ap kinds c.list-tokens.ensures
