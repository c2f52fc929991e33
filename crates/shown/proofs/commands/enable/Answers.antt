use Rattle.words.specs.SaysLaws.{then, taken, left}
use Rattle.model.specs.Quoted.{codes}
use Rattle.shown.specs.Commands.{enable_text}
use Rattle.shown.proofs.commands.enable.Goals as goal

pub returns-then-s-x : goal.returns-then-s-x
unfolding enable_text codes
returns-then-s-x c = taken _ _ (rw c.get8-x.ensures at c.if-s-x.true)
    (then c.put-a.ensures (rw c.get8-x.ensures at c.switch.ensures))

pub returns : goal.returns
unfolding enable_text
returns c = left _ _ (rw c.get8-x.ensures at c.if-s-x.false)
    c.raw.ensures
