use Rattle.reports.specs.Options.{plain_asked}
use mathlib.Core.Path.{refl}
use Rattle.reports.proofs.plain.Goals as goal

pub returns : goal.returns
unfolding plain_asked
returns c = refl
