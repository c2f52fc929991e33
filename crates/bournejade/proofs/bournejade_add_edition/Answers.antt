use mathlib.Core.Path.{ap, ◌∙◌}
use Rattle.bournejade.specs.Gives.{number_in}
use Rattle.bournejade.specs.GivesLaws.{number-tried}
use Rattle.bournejade.specs.NumberedLaws.{known-add}
use Rattle.bournejade.proofs.bournejade_add_edition.Goals as goal

pub returns : goal.returns
returns c = record {
  value = c.number.ensures ∙ ap number_in c.add-r.ensures.0 ∙ number-tried _ (known-add c.args.state.now _);
  state_after = c.add-r.ensures.1;
}
