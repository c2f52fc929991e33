use Rattle.reports.specs.MessagesLaws.{stop-so}
use Rattle.model.specs.Quoted.{codes}
use Rattle.reports.proofs.messages.stopped.Goals as goal

pub returns : goal.returns
unfolding codes
returns c = let a = c.args in
    stop-so a.lines a.number a.position a.found _ c.blank.ensures c.next.ensures
    c.said-line.ensures c.refused.ensures c.gapped-gap.ensures
    c.with.ensures
