use Rattle.ticks.specs.WrittenLaws.{stays-over}
use Rattle.counts.proofs.tick.stays.Goals as goal

pub returns : goal.returns
returns c = stays-over _ _ c.if-silent-run.false
