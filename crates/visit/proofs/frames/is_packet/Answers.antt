use Rattle.visit.specs.FramesLaws.{packet-read}
use Rattle.visit.proofs.frames.is_packet.Goals as goal

pub returns : goal.returns
returns c = let a = c.args in
    packet-read a.frame.now _ _ c.is_kind-plain.ensures c.is_kind-scanned.ensures
