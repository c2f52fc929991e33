use mathlib.Core.Path.{refl}
use Rattle.index.specs.Seen.{mark_of}
use Rattle.index.specs.SeenLaws.{mark-small}
use Rattle.index.proofs.table.mark_of.Goals as goal

pub returns : goal.returns
unfolding mark_of
returns c = (refl, mark-small _)
