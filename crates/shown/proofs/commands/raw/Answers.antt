use Rattle.words.specs.SaysLaws.{nothing, taken, left}
use Rattle.model.specs.Quoted.{codes}
use borrow.Author.Tests.{eq-eqb, ne_eqb}
use Rattle.shown.specs.Commands.{raw_text}
use Rattle.shown.proofs.commands.raw.Goals as goal

pub returns-then-s-eq0 : goal.returns-then-s-eq0
unfolding raw_text
returns-then-s-eq0 c = taken _ _ (eq-eqb _ _ c.if-s-eq0.true) (nothing _ _)

pub returns : goal.returns
unfolding raw_text codes
returns c = left _ _ (ne_eqb _ _ c.if-s-eq0.false) c.hex.ensures
