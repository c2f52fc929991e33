use Rattle.parts.specs.PartsLaws.{pointwise-sames}
use mathlib.Core.Path.{◌∙◌}
use Rattle.parts.proofs.same.Goals as goal

pub returns : goal.returns
returns c = c.eq.ensures ∙ pointwise-sames c.args.a.now c.args.b.now
