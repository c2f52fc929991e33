use mathlib.Core.Path.{ap}
use lib.ListN.{length}
use Rattle.stays.proofs.long.Goals as goal

pub returns : goal.returns
returns c = ap length c.as_slice.ensures
