use mathlib.Core.Path.{refl}
use Rattle.commands.specs.Handles.{busy_at}
use Rattle.commands.proofs.busy.Goals as goal

pub returns : goal.returns
unfolding busy_at
returns c = refl
