use Rattle.reports.specs.FitsLaws.{refused-whole}
use Rattle.model.specs.Quoted.{codes}
use Rattle.reports.proofs.refused.Goals as goal

pub returns : goal.returns
unfolding codes
returns c = refused-whole c.args.x _
    c.from.ensures c.blank.ensures
    c.refused-t.ensures c.with.ensures
