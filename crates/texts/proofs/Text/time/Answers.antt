use Rattle.model.specs.Quoted.{codes}
use Rattle.texts.specs.Text.{told}
use Rattle.texts.specs.WordsLaws.{time-so}
use Rattle.texts.proofs.Text.time.Goals as goal

pub returns : goal.returns
unfolding codes
returns c = time-so (told c.args.self) c.args.ticks c.said.ensures c.with.ensures
    c.two.ensures c.with-2.ensures c.two-2.ensures c.said-2.ensures
