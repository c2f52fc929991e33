use Rattle.std.proofs.Common.{refl}
use Rattle.twin.specs.Seen.{bare}
use Rattle.twin.proofs.starts.emptied.Goals as goal

pub returns : goal.returns
unfolding bare
returns c = refl
