use Rattle.bars.specs.AxisLaws.{step_so}
use Rattle.bars.proofs.step.Goals as goal

pub returns : goal.returns
returns c = step_so c.args.span c.fit-hours.ensures
    c.fit-hour.ensures c.fit-minutes.ensures c.fit.ensures
