use Rattle.parts.specs.PartsLaws.{zero-step, zero-end}
use native.Mathlib.Omega.{arith}
use mathlib.Core.Path.{refl}
use Rattle.parts.proofs.zeros.Goals as goal

pub loop-x-init : goal.loop-x-init
loop-x-init c = refl

pub loop-x-preserved : goal.loop-x-preserved
loop-x-preserved c = let l = c.loop-x in
    zero-step c.args.s.now l.all l.x-index l.invariant (omega arith)

pub returns : goal.returns
returns c = let l = c.loop-x in
    zero-end c.args.s.now l.all l.x-index l.invariant (omega arith)
