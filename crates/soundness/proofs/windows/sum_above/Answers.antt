use Rattle.soundness.specs.Code.{sum_above}
use Rattle.std.proofs.Common.{arith}
use Rattle.soundness.proofs.windows.sum_above.Goals as goal

pub returns : goal.returns
unfolding sum_above
returns c = rw c.from.ensures
