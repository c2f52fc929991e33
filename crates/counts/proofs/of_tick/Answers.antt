use Rattle.counts.specs.FramesLaws.{adds-tick, adds-no-tick}
use Rattle.totals.specs.GainsLaws.{no-gains-wide}
use Rattle.counts.proofs.of_tick.Goals as goal

pub returns-then-payload-eq0 : goal.returns-then-payload-eq0
returns-then-payload-eq0 c = let a = c.args in
    adds-tick a.s.now a.payload.now c.if-payload-eq0.true c.gains_of.ensures

pub returns : goal.returns
returns c = let a = c.args in
    adds-no-tick a.s.now a.payload.now c.if-payload-eq0.false (no-gains-wide c.no_gains.ensures)
