use Rattle.model.specs.Frames.{packet_of}
use Rattle.packets.specs.BeginsLaws.{begun-left, begun_kept, begun-none}
use Rattle.packets.proofs.starts.keep_start.Goals as goal

pub returns-then-a-ne1 : goal.returns-then-a-ne1
returns-then-a-ne1 c = let a = c.args in
    λ m w x. begun-left m a.s.now a.i a.a (packet_of a.payload.now) w c.if-a-ne1.true

pub returns-then-a-eq1 : goal.returns-then-a-eq1
returns-then-a-eq1 c = let a = c.args in
    λ m w x. begun_kept m a.s.now a.i a.a (packet_of a.payload.now) w x c.if-a-ne1.false
    c.if-a-eq1.true c.put_latest.ensures

pub returns : goal.returns
returns c = let a = c.args in
    λ m w x. begun-none m a.s.now a.i a.a (packet_of a.payload.now) w c.if-a-ne1.false
    c.if-a-eq1.false c.put_none.ensures
