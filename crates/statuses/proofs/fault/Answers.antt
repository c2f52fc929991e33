use Rattle.statuses.specs.SecondLaws.{fault-condition, fault-settings}
use Rattle.statuses.proofs.fault.Goals as goal

pub returns-then-good-may : goal.returns-then-good-may
returns-then-good-may c = fault-condition _ c.requires.0 c.requires.2 c.settings_good-good.ensures
    c.permitted-may.ensures c.if-good-may.true c.condition_status.ensures

pub returns : goal.returns
returns c = fault-settings _ c.settings_good-good.ensures c.permitted-may.ensures
    c.if-good-may.false
