use Rattle.visit.specs.FramesLaws.{tick-none, tick-some}
use Rattle.visit.proofs.frames.tick_of.Goals as goal

pub returns-then-ticks-eq0 : goal.returns-then-ticks-eq0
returns-then-ticks-eq0 c = tick-none c.args.ticks c.if-ticks-eq0.true

pub returns : goal.returns
returns c = tick-some c.args.ticks
