use mathlib.Core.Path.{ap, ◌∙◌}
use Rattle.wholes.specs.Index.{handles_of}
use Rattle.index.specs.Asked.{watch_of}
use Rattle.index.proofs.ask.Goals as goal

pub returns : goal.returns
returns c = c.told.ensures ∙ ap (λ x. watch_of (handles_of x)) c.mask_for.ensures
