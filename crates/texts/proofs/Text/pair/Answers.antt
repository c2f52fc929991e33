use Rattle.texts.specs.Text.{told}
use Rattle.texts.specs.WordsLaws.{pair-so}
use Rattle.texts.proofs.Text.pair.Goals as goal

pub returns : goal.returns
returns c = pair-so (told c.args.self) c.args.x _
    _ c.digit.ensures c.digit-2.ensures c.with.ensures
