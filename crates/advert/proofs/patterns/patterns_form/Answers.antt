use Rattle.std.proofs.Common.{refl, arith}
use Rattle.advert.proofs.PatternLaws.{form-none, form-zero, form-start, filled-end, filled_none, filled-over, filled_more}
use Rattle.advert.proofs.patterns.patterns_form.Goals as goal

pub returns-then-condition-eq0 : goal.returns-then-condition-eq0
returns-then-condition-eq0 c = form-none _ (omega arith)

pub returns-then-left-eq0 : goal.returns-then-left-eq0
returns-then-left-eq0 c = form-zero _ (omega arith) (omega arith)

pub loop-i-init : goal.loop-i-init
loop-i-init c = (omega arith, form-start _ (omega arith) (omega arith))

pub returns-in-None : goal.returns-in-None
returns-in-None c = filled_none _ c.loop-i.i _ _ c.loop-i.invariant.1 _ c.in-None.ensures (omega arith) refl

pub returns-then-left-eq0-2 : goal.returns-then-left-eq0-2
returns-then-left-eq0-2 c = filled-over _ c.loop-i.i _ _
    c.loop-i.invariant.1 _ c.in-Some.ensures.0 c.in-Some.ensures.1
    (omega arith)

pub loop-i-smaller : goal.loop-i-smaller
loop-i-smaller c = let k = c.in-Some.ensures in omega (arith, k.0.high, k.1)

pub loop-i-preserved : goal.loop-i-preserved
loop-i-preserved c = (
  c.in-Some.ensures.0.high,
  filled_more _ c.loop-i.i _ _
      c.loop-i.invariant.1 _ c.in-Some.ensures.0 _ c.in-Some.ensures.1
      (omega arith),
)

pub returns : goal.returns
returns c = filled-end c.args.condition.now c.loop-i.i _ _ c.loop-i.invariant.1 (omega arith)
