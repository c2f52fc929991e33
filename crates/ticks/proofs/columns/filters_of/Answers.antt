use Prim.Native.Nat.{◌-◌}
use mathlib.Core.List.{[]}
use mathlib.Core.Path.{refl}
use native.Mathlib.Omega.{arith}
use lib.ListN.{length-set}
use Rattle.ticks.specs.Table.{filter_in}
use Rattle.ticks.specs.TableLaws.{column-none, column-turn, column-end, filter-made}
use Rattle.ticks.proofs.columns.filters_of.Goals as goal

pub loop-h-init : goal.loop-h-init
loop-h-init c = (omega arith, refl, column-none _ [])

pub loop-h-smaller : goal.loop-h-smaller
loop-h-smaller c = omega arith

pub loop-h-preserved : goal.loop-h-preserved
loop-h-preserved c = let a = c.args in
    let l = c.loop-h in (
      omega arith,
      simp length-set l.invariant.1,
      column-turn (filter_in a.s.now a.filter) l.h l.r
          (filter-made a.s.now a.filter l.h c.filter_at.ensures) (omega arith) l.invariant.2,
    )

pub returns : goal.returns
returns c = let a = c.args in
    let l = c.loop-h in
    column-end (filter_in a.s.now a.filter) l.h l.r (omega arith) l.invariant.1 l.invariant.2
