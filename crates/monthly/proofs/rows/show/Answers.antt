use Rattle.std.proofs.Common.{◌-◌, arith}
use Rattle.monthly.proofs.rows.show.Goals as goal

pub loop-h-init : goal.loop-h-init
loop-h-init c = omega arith

pub loop-h-smaller : goal.loop-h-smaller
loop-h-smaller c = omega arith

pub loop-h-preserved : goal.loop-h-preserved
loop-h-preserved c = omega arith
