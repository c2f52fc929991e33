use Rattle.bars.specs.AxisLaws.{first-none, first_some, rest_below}
use Rattle.bars.proofs.first.Goals as goal

pub returns-then-step-eq0 : goal.returns-then-step-eq0
returns-then-step-eq0 c = first-none c.args.from c.args.step c.if-step-eq0.true

pub overflow_sub-result : goal.overflow_sub-result
overflow_sub-result c = rest_below c.args.from c.args.step c.if-step-eq0.false

pub returns : goal.returns
returns c = first_some c.args.from c.args.step c.if-step-eq0.false
