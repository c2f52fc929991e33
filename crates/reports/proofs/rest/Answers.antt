use Rattle.model.specs.Quoted.{codes}
use Rattle.reports.specs.FitsLaws.{rest-none, rest_some}
use Rattle.reports.proofs.rest.Goals as goal

pub returns-then-held-eq0 : goal.returns-then-held-eq0
returns-then-held-eq0 c = rest-none _ c.if-held-eq0.true c.blank.ensures

pub returns : goal.returns
unfolding codes
returns c = rest_some c.args.held c.if-held-eq0.false
    c.blank-2.ensures c.with.ensures
