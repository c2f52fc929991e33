use Rattle.model.specs.Level.{level}
use Rattle.std.proofs.Common.{arith}
use Rattle.state.proofs.level_of.Goals as goal

pub returns : goal.returns
unfolding level
returns c = omega arith
