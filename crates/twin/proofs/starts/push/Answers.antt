use Rattle.std.proofs.Common.{refl}
use Rattle.twin.specs.Seen.{pushed}
use Rattle.twin.proofs.starts.push.Goals as goal

pub returns : goal.returns
unfolding pushed
returns c = refl
