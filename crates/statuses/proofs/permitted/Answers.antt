use Rattle.statuses.specs.SecondLaws.{permits-first, permits-second}
use Rattle.statuses.proofs.permitted.Goals as goal

pub returns-then-params-eq15 : goal.returns-then-params-eq15
returns-then-params-eq15 c = permits-second _ c.requires.0 c.requires.2 c.if-params-eq15.true c.is_allowed.ensures

pub returns : goal.returns
returns c = permits-first _ c.if-params-eq15.false
