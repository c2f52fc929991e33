use borrow.Author.Tests.{lt-ltb, le-ltb}
use Rattle.laws.specs.Tests.{pick}
use Rattle.shown.specs.Commands.{is_complete}
use Rattle.shown.proofs.commands.is_complete.Goals as goal

pub returns-then-n-lt7 : goal.returns-then-n-lt7
unfolding is_complete Rattle.laws.specs.Tests.pick
returns-then-n-lt7 c = rw (lt-ltb _ _ c.if-n-lt7.true)

pub returns : goal.returns
unfolding is_complete Rattle.laws.specs.Tests.pick
returns c = rw (
  le-ltb _ _ c.if-n-lt7.false,
  c.expected-k.ensures,
  c.wide-prefix.ensures.0,
  c.get8.ensures,
  c.get8-2.ensures,
  c.get8-3.ensures,
  c.wide-size.ensures.0,
  c.get8-4.ensures,
  c.get8-one.ensures,
)
