use Rattle.words.specs.SaysLaws.{then}
use Rattle.model.specs.Quoted.{codes}
use Rattle.shown.specs.Image.{head_text}
use Rattle.shown.proofs.image.head.Goals as goal

pub returns : goal.returns
unfolding head_text codes
returns c = (then (then (then (then c.long-a.ensures c.put-b.ensures)
    (rw c.get8.ensures at c.switch-c.ensures))
    (rw c.part.ensures at c.number-d.ensures))
    (rw c.behind.ensures at c.prefix.ensures))
