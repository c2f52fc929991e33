use Rattle.ticks.specs.Row.{windowed_by}
use mathlib.Core.Path.{refl}
use Rattle.ticks.proofs.tells.windowed.Goals as goal

pub returns : goal.returns
unfolding windowed_by
returns c = refl
