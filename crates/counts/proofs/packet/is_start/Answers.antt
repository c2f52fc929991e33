use Rattle.model.specs.Types.{device_of}
use Rattle.model.specs.Watch.{holds}
use Rattle.counts.specs.Turns.{begun-weak, begun-none, begun-by}
use Rattle.counts.proofs.packet.is_start.Goals as goal

pub returns-then-a-ne1 : goal.returns-then-a-ne1
returns-then-a-ne1 c = let a = c.args in
    λ m p h w x. begun-weak a.a a.left (holds m.pairs h (device_of p)) c.if-a-ne1.true

pub returns-then-left-eq0 : goal.returns-then-left-eq0
returns-then-left-eq0 c = let a = c.args in
    λ m p h w x. begun-none a.a a.left (holds m.pairs h (device_of p)) c.if-left-eq0.true

pub returns : goal.returns
returns c = let a = c.args in
    λ m p h w x. begun-by a.a a.left c.if-a-ne1.false c.if-left-eq0.false
    (c.is_held.ensures m p h w x)
