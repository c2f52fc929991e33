use Rattle.words.specs.SaysLaws.{then}
use Rattle.model.specs.Quoted.{codes}
use Rattle.shown.specs.Image.{monitor_text}
use Rattle.shown.proofs.image.monitor.Goals as goal

pub returns : goal.returns
unfolding monitor_text codes
returns c = (then (then (then (then c.octet-a.ensures c.put-b.ensures)
    (rw c.behind.ensures at c.limits-c.ensures)) (rw (
      c.get8-2.ensures,
      c.part.ensures,
      c.wide-n.ensures.0,
      c.get8.ensures,
    ) at c.condition-d.ensures)) c.added.ensures)
