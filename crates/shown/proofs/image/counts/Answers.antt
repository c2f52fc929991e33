use Rattle.words.specs.SaysLaws.{then}
use Rattle.model.specs.Quoted.{codes}
use Rattle.shown.specs.Image.{counts_text}
use Rattle.shown.proofs.image.counts.Goals as goal

pub returns : goal.returns
unfolding counts_text codes
returns c = (then (then (then (rw c.get16.ensures at c.said-a.ensures) c.octet-b.ensures)
    c.long-c.ensures) (rw c.get64.ensures at c.sum.ensures))
