use mathlib.Core.Path.{refl}
use Rattle.additions.specs.Pieces.{begun}
use Rattle.additions.proofs.begin.Goals as goal

pub returns : goal.returns
unfolding begun
returns c = refl
