use Rattle.reports.specs.Options.{with_numbers}
use mathlib.Core.Path.{refl}
use Rattle.reports.proofs.options.with_numbers.Goals as goal

pub returns : goal.returns
unfolding with_numbers
returns c = refl
