use Rattle.words.specs.SaysLaws.{nothing, taken, left}
use Rattle.fields.specs.Monitors.{bit_text}
use Rattle.model.specs.Quoted.{codes}
use borrow.Author.Tests.{eq-eqb, ne_eqb}
use Rattle.fields.proofs.monitors.bit.Goals as goal

pub returns-then-x-k-eq1 : goal.returns-then-x-k-eq1
unfolding bit_text codes
returns-then-x-k-eq1 c = taken _ _ (eq-eqb _ _ c.if-x-k-eq1.true) c.put.ensures

pub returns : goal.returns
unfolding bit_text codes
returns c = left _ _ (ne_eqb _ _ c.if-x-k-eq1.false) (nothing _ _)
