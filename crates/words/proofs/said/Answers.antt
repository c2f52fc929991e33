use Rattle.words.specs.SaysLaws.{same, then}
use Rattle.words.specs.PiecesLaws.{decimal-held}
use Rattle.words.proofs.said.Goals as goal

pub returns : goal.returns
returns c = then c.put-a.ensures
    (same (decimal-held c.args.n c.blank.ensures c.said.ensures) c.text.ensures)
