use mathlib.Core.Path.{ap, ◌∙◌}
use Rattle.texts.specs.Text.{room, told}
use mathlib.Core.List.{◌++◌}
use lib.ListN.{take}
use Rattle.stays.proofs.append.Goals as goal

pub returns : goal.returns
returns c = c.with.ensures ∙ ap (λ x. take room (told c.args.t ++ x)) c.as_slice.ensures
