use Rattle.words.specs.SaysLaws.{same}
use Rattle.words.proofs.text.Goals as goal

pub returns : goal.returns
returns c = same c.as_slice.ensures c.put.ensures
