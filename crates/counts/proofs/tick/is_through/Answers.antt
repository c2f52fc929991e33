use Rattle.counts.specs.TicksLaws.{through-off, through-on}
use Rattle.counts.proofs.tick.is_through.Goals as goal

pub returns-then-s-ne1 : goal.returns-then-s-ne1
returns-then-s-ne1 c = let a = c.args in
    λ m k. through-off m a.s.now k a.h c.requires.1 a.event c.if-s-ne1.true

pub returns : goal.returns
returns c = let a = c.args in
    λ m k. through-on m a.s.now k a.h c.requires.1 a.event c.if-s-ne1.false
    c.filtering_of-bits.ensures c.lets_through.ensures
