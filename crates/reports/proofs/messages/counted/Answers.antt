use Rattle.reports.specs.MessagesLaws.{counts-so}
use Rattle.model.specs.Quoted.{codes}
use Rattle.reports.proofs.messages.counted.Goals as goal

pub returns : goal.returns
unfolding codes
returns c = let a = c.args in
    counts-so a.lines a.executed a.position _ c.blank.ensures c.seen_of.ensures
    c.said-read.ensures c.said-ran.ensures c.said-seen.ensures c.said.ensures
