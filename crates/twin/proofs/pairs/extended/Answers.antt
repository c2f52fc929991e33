use Rattle.model.specs.Levels.{extended}
use Rattle.model.specs.Level.{level}
use Rattle.std.proofs.Common.{arith}
use Rattle.twin.proofs.pairs.extended.Goals as goal

pub returns-then-rssi-lt128 : goal.returns-then-rssi-lt128
unfolding extended level
returns-then-rssi-lt128 c = omega (arith, c.if-rssi-lt128.true)

pub returns : goal.returns
unfolding extended level
returns c = omega (arith, c.if-rssi-lt128.false)
