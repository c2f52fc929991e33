use Rattle.std.proofs.Common.{sym, refl, ◌∙◌, arith}
use Rattle.advert.specs.PartsLaws.{part-least}
use Rattle.advert.specs.Pattern.{patterns_meet, patterns}
use Rattle.advert.proofs.PatternLaws.{asked-end, asked-none, asked-hit, asked-miss}
use Rattle.advert.proofs.patterns.patterns_meet.Goals as goal

pub loop-i-init : goal.loop-i-init
unfolding patterns_meet patterns
loop-i-init c = refl

pub returns-in-None : goal.returns-in-None
returns-in-None c = asked-none _ _ c.loop-i.i _ c.loop-i.invariant _ c.in-None.ensures refl

pub pattern_meets-requires : goal.pattern_meets-requires
pattern_meets-requires c = omega (arith, part-least _ _ _ _ c.in-Some.ensures.0 c.in-Some.ensures.1)

pub returns-then-pattern_meets : goal.returns-then-pattern_meets
returns-then-pattern_meets c = asked-hit _ _ c.loop-i.i _ c.loop-i.invariant _ c.in-Some.ensures.0 c.in-Some.ensures.1
    (sym c.pattern_meets.ensures ∙ c.if-pattern_meets.true)

pub loop-i-smaller : goal.loop-i-smaller
loop-i-smaller c = let k = c.in-Some.ensures in omega (arith, k.0.high, k.1)

pub loop-i-preserved : goal.loop-i-preserved
loop-i-preserved c = asked-miss _ _ c.loop-i.i _ c.loop-i.invariant _ c.in-Some.ensures.0 c.in-Some.ensures.1
    (sym c.pattern_meets.ensures ∙ c.if-pattern_meets.false)

pub returns : goal.returns
returns c = asked-end _ _ c.loop-i.i _ c.loop-i.invariant (omega arith)
