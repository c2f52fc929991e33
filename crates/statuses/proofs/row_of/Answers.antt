use native.Mathlib.Omega.{arith}
use Rattle.statuses.specs.LookupLaws.{lookup-hit, lookup-miss, lookup-end}
use mathlib.Core.Path.{refl}
use Rattle.statuses.proofs.row_of.Goals as goal

pub loop-r-init : goal.loop-r-init
loop-r-init c = (omega arith, (refl, refl))

pub returns-then-r-sub : goal.returns-then-r-sub
returns-then-r-sub c = let l = c.loop-r in
    lookup-hit _ _ l.r-index (omega arith) l.invariant.1 c.if-r-sub.true

pub loop-r-preserved : goal.loop-r-preserved
loop-r-preserved c = let l = c.loop-r in
    (omega arith, lookup-miss _ _ l.r-index (omega arith) l.invariant.1 c.if-r-sub.false)

pub returns : goal.returns
returns c = let l = c.loop-r in lookup-end _ l.r-index (omega arith) l.invariant.1
