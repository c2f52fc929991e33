use Rattle.std.proofs.Common.{◌∙◌}
use Rattle.sheets.specs.Sheet.{negative}
use Rattle.sheets.proofs.SignsLaws.{below-held, held_back}
use Rattle.sheets.proofs.reads.below.Goals as goal

pub returns : goal.returns
returns c = held_back (negative c.args.n) (c.saturating_sub_unsigned.ensures ∙ below-held c.args.n)
