use Rattle.words.specs.SaysLaws.{nothing, taken, left}
use Rattle.words.specs.Pieces.{number_text}
use Rattle.fields.specs.Monitors.{reserved_text}
use Rattle.model.specs.Quoted.{codes}
use borrow.Author.Tests.{eq-eqb, ne_eqb}
use Rattle.fields.proofs.monitors.reserved.Goals as goal

pub returns-then-x-eq0 : goal.returns-then-x-eq0
unfolding reserved_text number_text codes
returns-then-x-eq0 c = taken _ _ (eq-eqb _ _ c.if-x-eq0.true) (nothing _ _)

pub returns : goal.returns
unfolding reserved_text number_text codes
returns c = left _ _ (ne_eqb _ _ c.if-x-eq0.false) c.number.ensures
