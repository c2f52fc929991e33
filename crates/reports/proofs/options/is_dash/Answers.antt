use Rattle.reports.specs.Options.{is_dash}
use Rattle.model.specs.Quoted.{codes}
use Rattle.reports.proofs.options.is_dash.Goals as goal

pub returns : goal.returns
unfolding is_dash codes
returns c = c.same.ensures
