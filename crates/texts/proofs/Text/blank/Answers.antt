use Rattle.texts.specs.Text.{told}
use mathlib.Core.Path.{refl}
use Rattle.texts.proofs.Text.blank.Goals as goal

pub returns : goal.returns
unfolding told
returns c = refl
