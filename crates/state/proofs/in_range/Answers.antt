use Rattle.std.proofs.Common.{sym}
use Rattle.model.proofs.LevelsLaws.{range-levels}
use Rattle.state.proofs.in_range.Goals as goal

pub returns : goal.returns
returns c = rw c.level_of-level.ensures (sym (range-levels c.args.rssi))
