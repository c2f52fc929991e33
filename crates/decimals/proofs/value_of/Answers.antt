use Rattle.decimals.specs.ReadingLaws.{value_on, value-end}
use mathlib.Core.Path.{refl}
use native.Mathlib.Omega.{arith}
use Rattle.decimals.proofs.value_of.Goals as goal

pub loop-c-init : goal.loop-c-init
loop-c-init c = refl

pub loop-c-preserved : goal.loop-c-preserved
loop-c-preserved c = let l = c.loop-c in
    value_on c.args.word.now l.c-index l.value c.grown-value.result (omega arith)
    l.invariant c.grown-value.ensures

pub returns : goal.returns
returns c = value-end c.args.word.now c.loop-c.c-index c.loop-c.value
    (omega arith) c.loop-c.invariant
