use Rattle.words.specs.SaysLaws.{then}
use Rattle.model.specs.Quoted.{codes}
use Rattle.shown.specs.Commands.{complete_text}
use Rattle.shown.proofs.commands.complete.Goals as goal

pub returns : goal.returns
unfolding complete_text codes
returns c = (then (then (then (then (then (rw c.part.ensures at
    c.number-a.ensures) c.put-b.ensures) (rw c.get8-sub.ensures at
    c.sub-c.ensures)) c.put-d.ensures)
    (rw c.get8-status.ensures at c.status-e.ensures)) (rw (
      c.get8-status.ensures,
      c.get8-sub.ensures,
      c.behind.ensures,
    ) at c.returned.ensures))
