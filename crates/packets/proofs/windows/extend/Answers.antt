use Rattle.std.proofs.Common.{arith}
use Rattle.model.specs.Levels.{extended}
use Rattle.packets.proofs.windows.extend.Goals as goal

pub returns : goal.returns
unfolding extended
returns c = rw (c.from.ensures, c.level_of.ensures)
