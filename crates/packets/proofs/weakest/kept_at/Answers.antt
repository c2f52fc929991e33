use Rattle.packets.specs.Weakest.{level_at}
use Rattle.packets.proofs.weakest.kept_at.Goals as goal

pub returns : goal.returns
unfolding level_at
returns c = c.level_of.ensures
