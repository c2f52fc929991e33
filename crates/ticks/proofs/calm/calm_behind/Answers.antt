use native.Mathlib.Omega.{arith}
use Rattle.ticks.specs.CalmLaws.{calm-none, calm-same}
use Rattle.ticks.proofs.calm.calm_behind.Goals as goal

pub returns-then-kept-from : goal.returns-then-kept-from
returns-then-kept-from c = let a = c.args in (
  omega arith,
  omega arith,
  calm-none a.intervals.now a.periods.now a.t.now a.from
      a.kept,
)

pub returns : goal.returns
returns c = let a = c.args in
    let r = c.calm_rows in (
      r.ensures.0,
      r.ensures.1,
      calm-same a.intervals.now a.periods.now a.t.now a.from a.kept
          r.result c.if-kept-from.false r.ensures.2,
    )
