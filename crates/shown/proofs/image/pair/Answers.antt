use Rattle.words.specs.SaysLaws.{then}
use Rattle.model.specs.Quoted.{codes}
use Rattle.shown.specs.Image.{pair_text}
use Rattle.shown.proofs.image.pair.Goals as goal

pub returns : goal.returns
unfolding pair_text codes
returns c = (then (then (then (then (then (then c.octet-a.ensures (rw (
  c.device_of.ensures,
  c.behind.ensures,
) at c.device-b.ensures)) c.counts-c.ensures) c.level-d.ensures)
    c.put-e.ensures) (rw c.get8.ensures at c.event_type-f.ensures))
    (rw c.behind-2.ensures at c.structures.ensures))
