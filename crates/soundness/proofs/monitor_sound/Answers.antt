use Rattle.soundness.specs.CodeLaws.{monitor-empty, monitor-used}
use Rattle.soundness.proofs.monitor_sound.Goals as goal

pub returns-then-r-eq0 : goal.returns-then-r-eq0
returns-then-r-eq0 c = let a = c.args in
    monitor-empty a.place a.r.now c.if-r-eq0.true c.zeros_from.ensures

pub returns : goal.returns
returns c = let a = c.args in
    monitor-used a.place a.r.now c.if-r-eq0.false c.held_sound.ensures
