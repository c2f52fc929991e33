use mathlib.Core.Path.{refl}
use Rattle.bournejade.proofs.bournejade_answer_size.Goals as goal

pub returns : goal.returns
returns c = refl
