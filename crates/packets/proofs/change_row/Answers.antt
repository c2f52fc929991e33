use Rattle.model.specs.Frames.{packet_of}
use Rattle.packets.specs.MovesLaws.{change-all}
use Rattle.packets.proofs.change_row.Goals as goal

pub returns : goal.returns
unfolding packet_of
returns c = let a = c.args in
    λ m w x r. change-all m a.s.now a.i a.a (packet_of a.payload.now) w x r
    (c.keep.ensures m w) (λ n v q. c.count_row.ensures n v x q)
    (λ n v. c.remember.ensures n v x)
