use Rattle.words.specs.SaysLaws.{taken, left}
use Rattle.model.specs.Quoted.{codes}
use borrow.Author.Tests.{eq-eqb, ne_eqb}
use Rattle.shown.specs.Commands.{cancel_text}
use Rattle.shown.proofs.commands.cancel.Goals as goal

pub returns-then-s-eq1 : goal.returns-then-s-eq1
unfolding cancel_text codes
returns-then-s-eq1 c = taken _ _ (eq-eqb _ _ c.if-s-eq1.true) c.octet.ensures

pub returns : goal.returns
unfolding cancel_text
returns c = left _ _ (ne_eqb _ _ c.if-s-eq1.false) c.raw.ensures
