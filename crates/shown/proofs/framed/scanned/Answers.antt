use Rattle.words.specs.SaysLaws.{then}
use Rattle.model.specs.Quoted.{codes}
use Rattle.shown.specs.Frames.{scanned_text}
use Rattle.shown.proofs.framed.scanned.Goals as goal

pub returns : goal.returns
unfolding scanned_text codes
returns c = (then (then c.packet-a.ensures c.put-b.ensures) (rw (
  c.part.ensures,
  c.wide-k.ensures.0,
  c.get8-2.ensures,
  c.wide-n.ensures.0,
  c.get8.ensures,
) at c.structures.ensures))
