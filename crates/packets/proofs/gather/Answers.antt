use Rattle.packets.specs.WindowsLaws.{gather-taken}
use Rattle.packets.specs.MovesLaws.{gather-left}
use Rattle.model.specs.Frames.{packet_of}
use Rattle.packets.proofs.gather.Goals as goal

pub returns-then-a-eq1 : goal.returns-then-a-eq1
returns-then-a-eq1 c = let a = c.args in
    λ m w x r. gather-taken m a.s.now a.i a.a (packet_of a.payload.now) w x r c.if-a-eq1.true
    c.gather_at.ensures

pub returns-else-a-eq1 : goal.returns-else-a-eq1
returns-else-a-eq1 c = let a = c.args in
    λ m w x r. gather-left m a.s.now a.i a.a (packet_of a.payload.now) w c.if-a-eq1.false
