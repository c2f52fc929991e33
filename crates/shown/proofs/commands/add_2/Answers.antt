use Rattle.words.specs.SaysLaws.{then, taken, left}
use Rattle.model.specs.Quoted.{codes}
use borrow.Author.Tests.{lt-ltb, le-ltb}
use Rattle.shown.specs.Commands.{add2_text}
use Rattle.shown.proofs.commands.add_2.Goals as goal

pub returns-then-s-lt-ADD_2_SIZE : goal.returns-then-s-lt-ADD_2_SIZE
unfolding add2_text
returns-then-s-lt-ADD_2_SIZE c = taken _ _ (lt-ltb _ _ c.if-s-lt-ADD_2_SIZE.true) c.raw.ensures

pub returns : goal.returns
unfolding add2_text codes
returns c = left _ _ (le-ltb _ _ c.if-s-lt-ADD_2_SIZE.false)
    (then (then (then c.put-a.ensures c.limits-b.ensures)
    (rw c.behind.ensures at c.peer-c.ensures))
    (rw (c.get8.ensures, c.behind-2.ensures) at c.condition.ensures))
