use Rattle.words.specs.SaysLaws.{then}
use Rattle.words.specs.Pieces.{groups_text}
use Rattle.model.specs.Quoted.{codes}
use Rattle.words.proofs.groups.Goals as goal

pub returns : goal.returns
unfolding groups_text codes
returns c = then (then (then (then (rw c.part.ensures at c.number-a.ensures)
    (rw c.part-2.ensures at c.number-b.ensures))
    (rw c.part-3.ensures at c.number-c.ensures))
    (rw c.part-4.ensures at c.number-d.ensures))
    (rw c.part-5.ensures at c.number.ensures)
