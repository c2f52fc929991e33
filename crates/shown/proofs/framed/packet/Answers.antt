use Rattle.words.specs.SaysLaws.{then}
use Rattle.shown.specs.Frames.{packet_text}
use Rattle.shown.proofs.framed.packet.Goals as goal

pub returns : goal.returns
unfolding packet_text
returns c = (then c.heard-a.ensures (rw (
  c.part.ensures,
  c.wide-n.ensures.0,
  c.get8.ensures,
) at c.structures.ensures))
