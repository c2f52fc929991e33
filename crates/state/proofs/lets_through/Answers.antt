use Rattle.std.proofs.Common.{rules}
use Rattle.model.specs.Monitors.{has_bit, lets_through}
use Rattle.state.proofs.lets_through.Goals as goal

pub returns : goal.returns
unfolding lets_through has_bit
returns c = search rules
