use Rattle.texts.specs.JoinedLaws.{cut-so}
use Rattle.texts.specs.Text.{told}
use borrow.Author.Rules.{rules}
use Rattle.texts.proofs.Text.as_slice.Goals as goal

pub returns : goal.returns
unfolding told
returns c = cut-so c.args.self.now.octets c.args.self.now.count c.min.result (search rules) c.min.ensures
