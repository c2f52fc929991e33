use Rattle.words.specs.SaysLaws.{then, taken, left}
use Rattle.fields.specs.Data.{headed_text}
use Rattle.model.specs.Quoted.{codes}
use borrow.Author.Tests.{lt-ltb, le-ltb}
use Rattle.fields.proofs.data.headed.Goals as goal

pub returns-then-s-k : goal.returns-then-s-k
unfolding headed_text
returns-then-s-k c = taken _ _ (lt-ltb _ _ c.if-s-k.true) c.plain.ensures

pub returns : goal.returns
unfolding headed_text codes
returns c = left _ _ (le-ltb _ _ c.if-s-k.false)
    (then (rw c.part.ensures at c.uuid-a.ensures)
    (rw c.behind.ensures at c.plain-2.ensures))
