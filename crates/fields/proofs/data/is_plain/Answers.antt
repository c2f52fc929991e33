use Rattle.fields.specs.Data.{is_plain}
use Rattle.laws.specs.Tests.{pick}
use Rattle.fields.proofs.data.is_plain.Goals as goal

pub returns-then-c : goal.returns-then-c
unfolding is_plain Rattle.laws.specs.Tests.pick
returns-then-c c = rw c.if-c.true

pub returns : goal.returns
unfolding is_plain Rattle.laws.specs.Tests.pick
returns c = rw c.if-c.false
