use Rattle.ticks.specs.WrittenLaws.{closes-past}
use Rattle.ticks.specs.Row.{closes_at}
use Prim.Native.Nat.{◌+◌}
use lib.Dec.{leb}
use mathlib.Core.Bool.{Bool, ◌&&◌}
use mathlib.Core.Path.{◌∙◌, ap}
use Rattle.counts.proofs.tick.closes.Goals as goal

pub returns-then-ticks-period : goal.returns-then-ticks-period
unfolding closes_at
returns-then-ticks-period c = ap (λ (b : Bool). b && leb c.args.period (c.args.ticks + 1))
    c.windowed-some.ensures

pub returns : goal.returns
returns c = c.windowed-some.ensures
    ∙ closes-past c.args.period c.args.ticks c.if-ticks-period.false
