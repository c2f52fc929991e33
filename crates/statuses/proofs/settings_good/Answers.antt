use Rattle.model.proofs.LevelsLaws.{most-levels}
use Rattle.model.specs.Monitors.{settings_good, ordered}
use Rattle.statuses.proofs.settings_good.Goals as goal

pub returns : goal.returns
unfolding settings_good ordered
returns c = rw (
  c.in_range-a.ensures,
  c.in_range-b.ensures,
  c.level_of-h.ensures,
  c.level_of-l.ensures,
  most-levels c.args.low c.args.high,
)
