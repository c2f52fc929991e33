use Rattle.words.specs.SaysLaws.{then, taken, left}
use Rattle.model.specs.Quoted.{codes}
use borrow.Author.Tests.{lt-ltb, le-ltb}
use Rattle.shown.specs.Commands.{add_text}
use Rattle.shown.proofs.commands.add.Goals as goal

pub returns-then-s-lt-ADD_SIZE : goal.returns-then-s-lt-ADD_SIZE
unfolding add_text
returns-then-s-lt-ADD_SIZE c = taken _ _ (lt-ltb _ _ c.if-s-lt-ADD_SIZE.true) c.raw.ensures

pub returns : goal.returns
unfolding add_text codes
returns c = left _ _ (le-ltb _ _ c.if-s-lt-ADD_SIZE.false)
    (then (then c.put-a.ensures c.limits-b.ensures)
    (rw (c.get8.ensures, c.behind.ensures) at c.condition.ensures))
