use Rattle.words.specs.SaysLaws.{then}
use Rattle.model.specs.Quoted.{codes}
use Rattle.shown.specs.Commands.{command_text}
use Rattle.shown.proofs.commands.command.Goals as goal

pub returns : goal.returns
unfolding command_text codes
returns c = (then (then (then (rw c.part.ensures at c.number-a.ensures)
    c.put-b.ensures) (rw c.get8-sub.ensures at c.sub-c.ensures)) (rw (
      c.get8-sub.ensures,
      c.behind.ensures,
    ) at c.parameters.ensures))
