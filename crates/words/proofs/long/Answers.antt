use Rattle.words.proofs.long.Goals as goal

pub returns : goal.returns
returns c = rw c.get32.ensures at c.said.ensures
