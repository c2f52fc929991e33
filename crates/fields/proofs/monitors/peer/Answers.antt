use Rattle.words.specs.SaysLaws.{then}
use Rattle.fields.specs.Monitors.{peer_text}
use Rattle.model.specs.Quoted.{codes}
use Rattle.fields.proofs.monitors.peer.Goals as goal

pub returns : goal.returns
unfolding peer_text codes
returns c = then (then (then (then (then c.put-a.ensures
    (rw c.get8.ensures at c.options-b.ensures)) c.put-c.ensures)
    (rw c.get8-2.ensures at c.filtering-d.ensures))
    (rw c.peer_of.ensures at c.device-e.ensures))
    (rw c.part.ensures at c.number.ensures)
