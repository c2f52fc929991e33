use Rattle.words.specs.SaysLaws.{then}
use Rattle.model.specs.Quoted.{codes}
use Rattle.shown.specs.Image.{end_text}
use Rattle.shown.proofs.image.end.Goals as goal

pub returns : goal.returns
unfolding end_text codes
returns c = (then c.octet-a.ensures c.octet.ensures)
