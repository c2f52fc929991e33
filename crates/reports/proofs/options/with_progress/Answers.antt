use Rattle.reports.specs.Options.{with_progress}
use mathlib.Core.Path.{refl}
use Rattle.reports.proofs.options.with_progress.Goals as goal

pub returns : goal.returns
unfolding with_progress
returns c = refl
