use Rattle.texts.specs.Text.{told}
use Rattle.texts.specs.WordsLaws.{two-so}
use Rattle.texts.proofs.Text.two.Goals as goal

pub returns : goal.returns
returns c = two-so (told c.args.self) c.args.n _
    _ c.octet.ensures c.octet-2.ensures c.with.ensures
