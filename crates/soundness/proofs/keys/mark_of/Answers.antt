use mathlib.Core.Path.{refl}
use Rattle.soundness.specs.Seen.{mark_of}
use Rattle.soundness.specs.SeenLaws.{mark-small}
use Rattle.soundness.proofs.keys.mark_of.Goals as goal

pub returns : goal.returns
unfolding mark_of
returns c = (refl, mark-small _)
