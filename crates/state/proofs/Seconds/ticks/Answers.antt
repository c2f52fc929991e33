use Rattle.std.proofs.Common.{arith}
use Rattle.model.specs.Types.{ticks_of}
use Rattle.state.proofs.Seconds.ticks.Goals as goal

pub returns : goal.returns
unfolding ticks_of
returns c = omega (arith, c.from.ensures)
