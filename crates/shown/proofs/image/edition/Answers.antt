use Rattle.words.specs.SaysLaws.{then}
use Rattle.model.specs.Quoted.{codes}
use Rattle.shown.specs.Image.{edition_text}
use Rattle.shown.proofs.image.edition.Goals as goal

pub returns : goal.returns
unfolding edition_text codes
returns c = (then c.long-a.ensures (rw c.behind.ensures at c.prefix.ensures))
