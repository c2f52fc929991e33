use Rattle.fips197.specs.Field.{◌⊕◌, xtimes}
use mathlib.Core.Path.{refl}
use Rattle.aes.proofs.double.Goals as goal

pub returns : goal.returns
unfolding xtimes ◌⊕◌
returns c = refl
