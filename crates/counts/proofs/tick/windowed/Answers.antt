use Rattle.ticks.specs.Row.{windowed_by}
use mathlib.Core.Path.{refl}
use Rattle.counts.proofs.tick.windowed.Goals as goal

pub returns : goal.returns
unfolding windowed_by
returns c = refl
