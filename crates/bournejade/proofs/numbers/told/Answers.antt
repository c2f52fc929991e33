use mathlib.Core.Path.{sym, ◌∙◌}
use Rattle.bournejade.specs.GivesLaws.{count-told}
use Rattle.bournejade.proofs.numbers.told.Goals as goal

pub returns : goal.returns
returns c = (c.number.ensures, c.unwrap_or.ensures ∙ count-told c.args.r)
