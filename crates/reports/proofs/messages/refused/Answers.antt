use Rattle.reports.specs.MessagesLaws.{refused-so}
use Rattle.texts.specs.Text.{told}
use Rattle.model.specs.Quoted.{codes}
use Rattle.reports.proofs.messages.refused.Goals as goal

pub returns : goal.returns
unfolding codes
returns c = let a = c.args in
    refused-so (told a.t) a.number c.said.ensures c.reasoned.ensures
