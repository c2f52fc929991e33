use borrow.Author.Tests.{lt-ltb, le-ltb}
use Rattle.laws.specs.Tests.{pick}
use Rattle.shown.specs.Frames.{is_change}
use Rattle.shown.proofs.framed.is_change.Goals as goal

pub returns-then-n-lt-LEAST_CHANGE : goal.returns-then-n-lt-LEAST_CHANGE
unfolding is_change Rattle.laws.specs.Tests.pick
returns-then-n-lt-LEAST_CHANGE c = rw (lt-ltb _ _ c.if-n-lt-LEAST_CHANGE.true)

pub returns-then-n-gt-MOST_CHANGE : goal.returns-then-n-gt-MOST_CHANGE
unfolding is_change Rattle.laws.specs.Tests.pick
returns-then-n-gt-MOST_CHANGE c = rw (le-ltb _ _ c.if-n-lt-LEAST_CHANGE.false, lt-ltb _ _ c.if-n-gt-MOST_CHANGE.true)

pub returns : goal.returns
unfolding is_change Rattle.laws.specs.Tests.pick
returns c = rw (
  le-ltb _ _ c.if-n-lt-LEAST_CHANGE.false,
  le-ltb _ _
      c.if-n-gt-MOST_CHANGE.false,
  c.wide-size.ensures.0,
  c.get8.ensures,
  c.get8-code.ensures,
  c.get8-kind.ensures,
  c.get8-which.ensures,
)
