use Rattle.words.specs.SaysLaws.{same}
use Rattle.words.specs.PiecesLaws.{pair_held}
use Rattle.words.proofs.pair.Goals as goal

pub returns : goal.returns
returns c = same
    (pair_held c.args.x c.blank.ensures
    c.pair.ensures) c.text.ensures
