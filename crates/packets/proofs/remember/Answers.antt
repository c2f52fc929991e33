use Rattle.model.specs.Frames.{packet_of}
use Rattle.packets.specs.MovesLaws.{recall-done, recall-plain, recall-barred}
use Rattle.packets.proofs.remember.Goals as goal

pub returns-then-a-ne1 : goal.returns-then-a-ne1
returns-then-a-ne1 c = let a = c.args in
    λ m w x. recall-plain m a.s.now a.i a.a (packet_of a.payload.now) w c.if-a-ne1.true

pub returns-then-a-ne1-2 : goal.returns-then-a-ne1-2
returns-then-a-ne1-2 c = let a = c.args in
    λ m w x. recall-barred m a.s.now a.i a.a (packet_of a.payload.now) w c.if-a-ne1-2.true

pub returns : goal.returns
returns c = let a = c.args in
    λ m w x. recall-done m a.s.now a.i a.a (packet_of a.payload.now) w x c.if-a-ne1.false
    c.if-a-ne1-2.false c.put_latest.ensures
