use Rattle.words.specs.SaysLaws.{nothing, taken, left}
use Rattle.fields.specs.Data.{plain_text}
use Rattle.model.specs.Quoted.{codes}
use borrow.Author.Tests.{eq-eqb, ne_eqb}
use Rattle.fields.proofs.data.plain.Goals as goal

pub returns-then-s-eq0 : goal.returns-then-s-eq0
unfolding plain_text codes
returns-then-s-eq0 c = taken _ _ (eq-eqb _ _ c.if-s-eq0.true) (nothing _ _)

pub returns : goal.returns
unfolding plain_text codes
returns c = left _ _ (ne_eqb _ _ c.if-s-eq0.false) c.hex.ensures
