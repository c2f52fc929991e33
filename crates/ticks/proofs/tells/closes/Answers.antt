use Rattle.ticks.specs.Row.{closes_at}
use Prim.Native.Nat.{◌+◌}
use lib.Dec.{leb}
use mathlib.Core.Bool.{Bool, ◌&&◌}
use mathlib.Core.Path.{ap}
use Rattle.ticks.proofs.tells.closes.Goals as goal

pub returns : goal.returns
unfolding closes_at
returns c = rw (c.from.ensures, c.from-2.ensures) (ap (λ (b : Bool). b && leb c.args.period (c.args.ticks + 1)) c.windowed-some.ensures)
