use Rattle.twin.specs.WindowsLaws.{from-none, from_some}
use Rattle.std.proofs.Common.{arith}
use Rattle.twin.proofs.pairs.window_from.Goals as goal

pub returns-then-not-windowed : goal.returns-then-not-windowed
returns-then-not-windowed c = (
  c.requires.order,
  omega arith,
  from-none c.args.t.now
      c.args.a c.args.k c.args.n
      c.windowed.ensures (c.if-not-windowed.true),
)

pub returns : goal.returns
returns c = (
  c.behind_tick.ensures.0,
  c.behind_tick.ensures.1,
  from_some
      c.args.t.now c.args.a
      c.args.k c.args.n
      c.behind_tick.result c.phase.result c.windowed.ensures
      (c.if-not-windowed.false) c.phase.ensures.0 c.behind_tick.ensures.2,
)
