use Rattle.std.proofs.Common.{sym, refl, ◌∙◌, arith}
use Rattle.advert.specs.PartsLaws.{part-least}
use Rattle.advert.specs.Pattern.{patterns_meet, patterns}
use Rattle.advert.proofs.PatternLaws.{asked-end, asked-none, asked-hit, asked-miss}
use Rattle.advert.specs.Cost.{in64}
use Rattle.advert.proofs.CostLaws.{counted_none, counted-end, counted-last, counted-hit, counted-miss}
use Rattle.advert.proofs.match_cost.Goals as goal

pub loop-i-init : goal.loop-i-init
unfolding patterns_meet patterns
loop-i-init c = (refl, counted_none _ _ _)

pub returns-in-None : goal.returns-in-None
returns-in-None c = let l = c.loop-i in let p = c.in-None.ensures in (
  asked-none _ _ l.i _ l.invariant.0 _ p refl,
  counted-last _ _ _ l.i _ l.invariant.1 _ p refl,
)

pub pattern_cost-m-requires : goal.pattern_cost-m-requires
pattern_cost-m-requires c = omega (arith, part-least _ _ _ _ c.in-Some.ensures.0 c.in-Some.ensures.1)

pub returns-then-m : goal.returns-then-m
unfolding in64
returns-then-m c = let l = c.loop-i in
    let p = c.in-Some.ensures.0 in
    let m = c.pattern_cost-m.ensures in
    let y = sym m.0 ∙ c.if-m.true in (
      asked-hit _ _ l.i _ l.invariant.0 _ p c.in-Some.ensures.1 y,
      counted-hit _ _ _ l.i _ l.invariant.1 _ p c.in-Some.ensures.1 m.1 c.wrapping_add_usize-count.ensures.value y,
    )

pub loop-i-smaller : goal.loop-i-smaller
loop-i-smaller c = let k = c.in-Some.ensures in omega (arith, k.0.high, k.1)

pub loop-i-preserved : goal.loop-i-preserved
unfolding in64
loop-i-preserved c = let l = c.loop-i in
    let p = c.in-Some.ensures.0 in
    let m = c.pattern_cost-m.ensures in
    let y = sym m.0 ∙ c.if-m.false in (
      asked-miss _ _ l.i _ l.invariant.0 _ p c.in-Some.ensures.1 y,
      counted-miss _ _ _ l.i _ l.invariant.1 _ p c.in-Some.ensures.1 m.1 c.wrapping_add_usize-count.ensures.value y,
    )

pub returns : goal.returns
returns c = let l = c.loop-i in (
  asked-end _ _ l.i _ l.invariant.0 (omega arith),
  counted-end _ _ _ l.i _ l.invariant.1 (omega arith),
)
