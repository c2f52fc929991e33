use native.Mathlib.Omega.{arith}
use Rattle.bournejade.specs.GivesLaws.{position}
use Rattle.bournejade.proofs.bournejade_position.Goals as goal

pub returns : goal.returns
returns c = position _ _ c.get32.ensures (omega arith)
