use mathlib.Core.List.{[]}
use Rattle.ticks.specs.TableLaws.{column-none, column-turn, column-end}
use lib.ListN.{get_or, length-set}
use Prim.Native.Nat.{◌+◌, ◌*◌, ◌-◌}
use mathlib.Core.Path.{refl}
use native.Mathlib.Omega.{arith}
use Rattle.model.specs.Layout.{monitor_size}
use Rattle.ticks.proofs.columns.column.Goals as goal

pub loop-h-init : goal.loop-h-init
loop-h-init c = (omega arith, refl, column-none _ [])

pub loop-h-smaller : goal.loop-h-smaller
loop-h-smaller c = omega arith

pub loop-h-preserved : goal.loop-h-preserved
loop-h-preserved c = let a = c.args in let l = c.loop-h in (
  omega arith,
  simp length-set l.invariant.1,
  column-turn (λ h. get_or a.s.now (a.at + monitor_size * h) 0) l.h
      l.r refl (omega arith) l.invariant.2,
)

pub returns : goal.returns
returns c = let a = c.args in
    let l = c.loop-h in
    column-end (λ h. get_or a.s.now (a.at + monitor_size * h) 0) l.h l.r (omega arith) l.invariant.1 l.invariant.2
