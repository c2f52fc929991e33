use Rattle.laws.specs.Loops.{when}
use Rattle.events.specs.OctetsLaws.{length-event}
use Rattle.ticks.specs.WrittenLaws.{stop-appended}
use mathlib.Core.Bool.{false}
use mathlib.Core.Path.{refl}
use native.Mathlib.Omega.{arith}
use Rattle.ticks.proofs.tells.tell_stop.Goals as goal

pub returns : goal.returns
unfolding when
returns c = let a = c.args in
    let n = length-event a.prefix.now a.r.now 0 (omega arith) in
    stop-appended a.out.now a.at a.prefix.now a.r.now false refl (omega arith)
    (omega arith) (omega (arith, n)) c.put_event.ensures.0 c.put_event.ensures.1
