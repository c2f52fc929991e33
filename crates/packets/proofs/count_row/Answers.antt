use Rattle.packets.specs.MovesLaws.{change-both}
use Rattle.model.specs.Frames.{packet_of}
use Rattle.packets.proofs.count_row.Goals as goal

pub returns : goal.returns
returns c = let a = c.args in
    λ m w x r. change-both m a.s.now a.i a.a (packet_of a.payload.now) w x r
    (c.refresh.ensures m w) (λ n v q. c.gather.ensures n v x q)
