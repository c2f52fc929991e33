use Prim.Native.Nat.{◌-◌}
use mathlib.Core.Path.{ap}
use native.Mathlib.Omega.{arith}
use lib.ListN.{length, length-set}
use Rattle.model.specs.Frames.{tick}
use Rattle.marks.proofs.FieldsLaws.{clamped}
use Rattle.months.specs.Counts.{row_in}
use Rattle.counts.specs.TicksLaws.{known}
use Rattle.counts.specs.Turns.{table_none, table-turn, table-end}
use Rattle.counts.proofs.tick.gains_of.Goals as goal

pub at_most-n-requires : goal.at_most-n-requires
at_most-n-requires c = tt

pub no_gains-gains-requires : goal.no_gains-gains-requires
no_gains-gains-requires c = tt

pub loop-h-init : goal.loop-h-init
loop-h-init c = (
  omega arith,
  ap length c.no_gains-gains.ensures,
  λ m k w. table_none (row_in m tick)
      c.no_gains-gains.result,
)

pub loop-h-smaller : goal.loop-h-smaller
loop-h-smaller c = omega arith

pub loop-h-preserved : goal.loop-h-preserved
loop-h-preserved c = let l = c.loop-h in (
  omega arith,
  simp length-set l.invariant.1,
  λ m k w. table-turn (row_in m tick) l.h l.gains _ (c.gain_at.ensures m k w) (omega (arith, l.invariant.1))
      (l.invariant.2 m k w),
)

pub returns : goal.returns
returns c = let a = c.args in
    let l = c.loop-h in
    λ m e b. let x = known m a.s.now e b (clamped c.at_most-n.ensures) in table-end (row_in m tick)
    l.h l.gains (omega arith) l.invariant.1 (l.invariant.2 m x.0 x.1)
