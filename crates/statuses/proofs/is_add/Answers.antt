use mathlib.Core.Path.{refl}
use Rattle.statuses.specs.Statuses.{adds_by}
use Rattle.statuses.proofs.is_add.Goals as goal

pub returns : goal.returns
unfolding adds_by
returns c = refl
