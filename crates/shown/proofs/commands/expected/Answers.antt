use borrow.Author.Tests.{lt-ltb, le-ltb}
use Rattle.laws.specs.Tests.{pick}
use Rattle.shown.specs.Commands.{expected_of}
use Rattle.shown.proofs.commands.expected.Goals as goal

pub returns-then-sub : goal.returns-then-sub
unfolding expected_of Rattle.laws.specs.Tests.pick
returns-then-sub c = rw c.if-sub.true

pub returns-then-status-sub : goal.returns-then-status-sub
unfolding expected_of Rattle.laws.specs.Tests.pick
returns-then-status-sub c = rw (c.if-sub.false, c.if-status-sub.true)

pub returns-then-prefix-gt-MOST_PREFIX : goal.returns-then-prefix-gt-MOST_PREFIX
unfolding expected_of Rattle.laws.specs.Tests.pick
returns-then-prefix-gt-MOST_PREFIX c = rw (c.if-sub.false, c.if-status-sub.false, lt-ltb _ _ c.if-prefix-gt-MOST_PREFIX.true)

pub returns : goal.returns
unfolding expected_of Rattle.laws.specs.Tests.pick
returns c = rw (c.if-sub.false, c.if-status-sub.false, le-ltb _ _ c.if-prefix-gt-MOST_PREFIX.false)
