use Rattle.bars.specs.AxisLaws.{bar-so}
use Rattle.bars.proofs.bar.Goals as goal

pub returns : goal.returns
returns c = bar-so _ _ c.across-from.ensures.0 c.across-to.ensures.0 c.wide.ensures
