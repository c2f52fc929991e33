use Rattle.counts.specs.TicksLaws.{other-watched, own-watched}
use Rattle.counts.proofs.tick.is_watched.Goals as goal

pub returns-then-wide-h : goal.returns-then-wide-h
returns-then-wide-h c = let a = c.args in
    λ m w. other-watched m a.s.now a.i w c.wide.ensures.0 a.h c.if-wide-h.true

pub returns : goal.returns
returns c = let a = c.args in
    λ m w. own-watched m a.s.now a.i w c.wide.ensures.0 a.h c.if-wide-h.false
    (c.goes_on.ensures m w)
