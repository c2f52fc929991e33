use Rattle.words.specs.SaysLaws.{same}
use Rattle.fields.proofs.terms.why.Goals as goal

pub returns : goal.returns
returns c = same c.text.ensures c.put.ensures
