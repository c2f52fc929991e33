use Rattle.words.specs.SaysLaws.{then}
use Rattle.model.specs.Quoted.{codes}
use Rattle.shown.specs.Frames.{heard_text}
use Rattle.shown.proofs.framed.heard.Goals as goal

pub returns : goal.returns
unfolding heard_text codes
returns c = (then (then (then c.put-a.ensures (rw c.get8.ensures at
    c.event_type-b.ensures)) (rw (
      c.device_of.ensures,
      c.behind.ensures,
    ) at c.device-c.ensures)) (rw c.last.ensures at c.level.ensures))
