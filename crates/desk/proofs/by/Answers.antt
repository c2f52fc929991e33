use Rattle.desk.specs.SaysLaws.{by-so}
use Rattle.model.specs.Quoted.{codes}
use Rattle.desk.proofs.by.Goals as goal

pub returns : goal.returns
unfolding codes
returns c = let a = c.args in
    by-so a.n a.h _ _ _ _ c.blank.ensures c.said-t.ensures
    c.counted-u.ensures c.said.ensures c.with.ensures
