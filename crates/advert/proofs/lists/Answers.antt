use Rattle.std.proofs.Common.{sym, refl, ◌∙◌, arith}
use Rattle.advert.proofs.UuidLaws.{listed-end, listed-hit, listed-miss}
use Rattle.advert.proofs.lists.Goals as goal

pub loop-i-init : goal.loop-i-init
loop-i-init c = (omega arith, refl)

pub returns-then-c : goal.returns-then-c
returns-then-c c = listed-hit _ _ c.loop-i.i _ c.loop-i.invariant.1
    (omega arith) (omega arith) (sym c.compare-c.ensures.0 ∙ c.if-c.true)

pub loop-i-smaller : goal.loop-i-smaller
loop-i-smaller c = omega arith

pub loop-i-preserved : goal.loop-i-preserved
loop-i-preserved c = let l = c.loop-i in (
  omega arith,
  listed-miss _ _ l.i _ l.invariant.1 (omega arith) (omega arith)
      (sym c.compare-c.ensures.0 ∙ c.if-c.false),
)

pub returns : goal.returns
returns c = listed-end _ _ c.loop-i.i _ c.loop-i.invariant.1 (omega arith)
