use Rattle.std.proofs.Common.{◌-◌, arith}
use Rattle.monthly.proofs.rows_word.Goals as goal

pub loop-at-init : goal.loop-at-init
loop-at-init c = omega arith

pub is-requires : goal.is-requires
is-requires c = tt

pub loop-at-smaller : goal.loop-at-smaller
loop-at-smaller c = omega arith

pub loop-at-preserved : goal.loop-at-preserved
loop-at-preserved c = omega arith
