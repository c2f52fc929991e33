use mathlib.Core.Path.{refl}
use Rattle.shown.specs.Image.{begins}
use Rattle.shown.proofs.image.begins.Goals as goal

pub returns : goal.returns
unfolding begins
returns c = refl
