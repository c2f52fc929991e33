use mathlib.Core.Path.{refl}
use Rattle.shown.specs.Line.{is_kind}
use Rattle.shown.proofs.is_frame_kind.Goals as goal

pub returns : goal.returns
unfolding is_kind
returns c = refl
