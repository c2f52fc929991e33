use Rattle.model.specs.Quoted.{codes}
use Rattle.texts.specs.Text.{told}
use Rattle.texts.specs.WordsLaws.{colon-so}
use Rattle.texts.proofs.Text.colon_pair.Goals as goal

pub returns : goal.returns
unfolding codes
returns c = colon-so (told c.args.self) c.args.v
    _ c.octet.ensures c.with.ensures c.pair.ensures
