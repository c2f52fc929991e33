use Rattle.words.specs.SaysLaws.{taken, left}
use Rattle.fields.specs.Names.{prefix_text}
use Rattle.model.specs.Quoted.{codes}
use borrow.Author.Tests.{eq-eqb, ne_eqb}
use Rattle.fields.proofs.terms.prefix.Goals as goal

pub returns-then-s-eq0 : goal.returns-then-s-eq0
unfolding prefix_text codes
returns-then-s-eq0 c = taken _ _ (eq-eqb _ _ c.if-s-eq0.true) c.put.ensures

pub returns : goal.returns
unfolding prefix_text codes
returns c = left _ _ (ne_eqb _ _ c.if-s-eq0.false) c.hex.ensures
