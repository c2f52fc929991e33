use Rattle.ticks.specs.CalmLaws.{calm-first}
use Rattle.ticks.proofs.tick_rows.Goals as goal

pub returns : goal.returns
returns c = let a = c.args in
    let x = c.tick_rest in
    let y = c.calm_rows-from in (
      x.ensures.0,
      x.ensures.1,
      x.ensures.2 a.t.now
          (calm-first a.intervals.now a.periods.now a.t.now a.out.now a.filters.now
          a.prefix.now
          y.result c.requires.3 y.ensures.2),
    )
