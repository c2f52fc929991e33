use Rattle.marks.specs.Fields.{fits_for}
use Rattle.marks.proofs.is_fit.Goals as goal

pub returns : goal.returns
unfolding fits_for
returns c = rw c.is_framed-framed.ensures
