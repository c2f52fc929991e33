use Rattle.reports.specs.MessagesLaws.{gap-so, gap-none}
use Rattle.texts.specs.Text.{told}
use Rattle.model.specs.Quoted.{codes}
use Rattle.reports.proofs.messages.gapped.Goals as goal

pub returns-then-number-eq-GAP : goal.returns-then-number-eq-GAP
unfolding codes
returns-then-number-eq-GAP c = let a = c.args in
    gap-so (told a.t) a.number a.position a.found _ c.if-number-eq-GAP.true c.next.ensures
    c.said-due.ensures c.said-came.ensures c.with.ensures

pub returns : goal.returns
unfolding codes
returns c = let a = c.args in
    gap-none (told a.t) a.number a.position a.found c.if-number-eq-GAP.false c.with-2.ensures
