use Rattle.words.specs.SaysLaws.{then}
use Rattle.fields.specs.Data.{quoted_text}
use Rattle.model.specs.Quoted.{codes}
use Rattle.fields.proofs.data.quoted.Goals as goal

pub returns : goal.returns
unfolding quoted_text codes
returns c = then
    (then c.put-a.ensures c.characters-b.ensures)
    c.put.ensures
