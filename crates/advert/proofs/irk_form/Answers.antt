use Rattle.std.proofs.Common.{refl}
use Rattle.advert.specs.Irk.{irk_form}
use Rattle.advert.proofs.irk_form.Goals as goal

pub returns : goal.returns
unfolding irk_form
returns c = refl
