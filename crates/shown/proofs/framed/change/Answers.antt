use Rattle.words.specs.SaysLaws.{nothing, then, taken, left}
use Rattle.model.specs.Quoted.{codes}
use borrow.Author.Tests.{lt-ltb, le-ltb}
use Rattle.shown.specs.Frames.{change_text}
use Rattle.shown.proofs.framed.change.Goals as goal

pub returns-then-n-lt-LEAST_CHANGE : goal.returns-then-n-lt-LEAST_CHANGE
unfolding change_text
returns-then-n-lt-LEAST_CHANGE c = taken _ _ (lt-ltb _ _ c.if-n-lt-LEAST_CHANGE.true) (nothing _ _)

pub returns : goal.returns
unfolding change_text codes
returns c = left _ _ (le-ltb _ _ c.if-n-lt-LEAST_CHANGE.false) (then (then (then
    (rw c.get8.ensures at c.change-a.ensures) (rw (
      c.device_of.ensures,
      c.behind.ensures,
    ) at c.device-b.ensures))
    c.octet-c.ensures) (rw c.part.ensures at c.prefix.ensures))
