use Rattle.words.specs.SaysLaws.{taken, left}
use Rattle.fields.specs.Names.{switch_text}
use Rattle.model.specs.Quoted.{codes}
use borrow.Author.Tests.{eq-eqb, ne_eqb}
use Rattle.fields.proofs.terms.switch.Goals as goal

pub returns-then-x-eq0 : goal.returns-then-x-eq0
unfolding switch_text codes
returns-then-x-eq0 c = taken _ _ (eq-eqb _ _ c.if-x-eq0.true) c.put.ensures

pub returns : goal.returns
unfolding switch_text codes
returns c = left _ _ (ne_eqb _ _ c.if-x-eq0.false) c.put-2.ensures
