use Rattle.bournejade.specs.GivesLaws.{gave}
use Rattle.bournejade.specs.NumberedLaws.{known-image}
use Rattle.bournejade.proofs.bournejade_save.Goals as goal

pub returns : goal.returns
returns c = let a = c.args in
    gave _ a.state.now a.out.now _ _ _ _ _ (known-image _ a.state.now) c.save-r.ensures
    c.told.ensures
