use Rattle.std.proofs.Common.{arith}
use Rattle.advert.proofs.PatternLaws.{holds-past, holds-start, holds-end, holds-step, holds-stop}
use Rattle.advert.proofs.CostLaws.{cost-past, cost-start, cost-end, cost_step, cost-stop}
use Rattle.advert.proofs.patterns.compare.Goals as goal

pub returns-then-text-n : goal.returns-then-text-n
returns-then-text-n c = (holds-past _ _ _ (omega arith), cost-past _ _ _ (omega arith))

pub returns-then-text-n-2 : goal.returns-then-text-n-2
returns-then-text-n-2 c = (holds-past _ _ _ (omega arith), cost-past _ _ _ (omega arith))

pub loop-j-init : goal.loop-j-init
loop-j-init c = (omega arith, holds-start _ _ _ (omega arith), cost-start _ _ _ 0 (omega arith))

pub returns-then-text-at : goal.returns-then-text-at
returns-then-text-at c = let l = c.loop-j in (
  holds-stop _ _ _ l.j _ l.invariant.1 (omega arith) (omega arith) c.if-text-at.true,
  cost-stop _ _ _ l.j l.invariant.2 (omega arith) (omega arith) c.if-text-at.true,
)

pub loop-j-smaller : goal.loop-j-smaller
loop-j-smaller c = omega arith

pub loop-j-preserved : goal.loop-j-preserved
loop-j-preserved c = let l = c.loop-j in (
  omega arith,
  holds-step _ _ _ l.j _ l.invariant.1 (omega arith) (omega arith) c.if-text-at.false,
  cost_step _ _ _ l.j l.invariant.2 (omega arith) (omega arith) c.if-text-at.false,
)

pub returns : goal.returns
returns c = let l = c.loop-j in (
  holds-end _ _ _ l.j _ l.invariant.1 (omega arith),
  let e = cost-end _ _ _ l.j l.invariant.2 (omega arith) in omega arith,
)
