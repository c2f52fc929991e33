use Rattle.words.specs.SaysLaws.{then}
use Rattle.fields.specs.Monitors.{unknown_text}
use Rattle.model.specs.Quoted.{codes}
use Rattle.fields.proofs.monitors.unknown.Goals as goal

pub returns : goal.returns
unfolding unknown_text codes
returns c = then c.said-a.ensures c.plain.ensures
