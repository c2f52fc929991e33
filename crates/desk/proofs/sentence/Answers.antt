use Rattle.desk.specs.SaysLaws.{said-by, said-nobody}
use Rattle.model.specs.Quoted.{codes}
use Rattle.desk.proofs.sentence.Goals as goal

pub returns-in-Some : goal.returns-in-Some
returns-in-Some c = said-by _ _ c.in-Some.is c.by.ensures

pub returns-in-None : goal.returns-in-None
unfolding codes
returns-in-None c = said-nobody _ _ c.in-None.is c.blank.ensures
    c.with.ensures
