use Rattle.words.proofs.octet.Goals as goal

pub returns : goal.returns
returns c = rw c.get8.ensures at c.said.ensures
