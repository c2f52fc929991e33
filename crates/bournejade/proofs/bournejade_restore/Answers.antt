use mathlib.Core.Path.{ap, ◌∙◌}
use Rattle.editions.specs.Editions.{is_image_on}
use Rattle.bournejade.specs.Gives.{number_in}
use Rattle.bournejade.specs.GivesLaws.{number-loaded}
use Rattle.bournejade.proofs.bournejade_restore.Goals as goal

pub returns : goal.returns
returns c = let a = c.args in
    let f = c.restore-answer.ensures in
    record { value = c.number.ensures ∙ ap number_in f.0 ∙ number-loaded (is_image_on a.image.now); state_after = f.1 }
