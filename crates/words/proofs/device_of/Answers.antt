use Rattle.words.specs.Pieces.{device_of}
use borrow.Author.Rules.{rules}
use Rattle.words.proofs.device_of.Goals as goal

pub returns : goal.returns
unfolding device_of
returns c = search rules
