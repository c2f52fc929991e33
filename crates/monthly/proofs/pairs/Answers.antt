use Rattle.std.proofs.Common.{◌-◌, arith}
use Rattle.monthly.proofs.pairs.Goals as goal

pub no_rows-requires : goal.no_rows-requires
no_rows-requires c = tt

pub loop-at-init : goal.loop-at-init
loop-at-init c = omega arith

pub loop-at-smaller : goal.loop-at-smaller
loop-at-smaller c = omega arith

pub loop-at-preserved : goal.loop-at-preserved
loop-at-preserved c = omega arith
