use Rattle.fields.specs.Data.{uuid_size}
use Rattle.laws.specs.Tests.{pick}
use Rattle.fields.proofs.data.uuid_size.Goals as goal

pub returns-then-kind : goal.returns-then-kind
unfolding uuid_size Rattle.laws.specs.Tests.pick
returns-then-kind c = rw c.if-kind.true

pub returns-then-kind-2 : goal.returns-then-kind-2
unfolding uuid_size Rattle.laws.specs.Tests.pick
returns-then-kind-2 c = rw (c.if-kind.false, c.if-kind-2.true)

pub returns-then-kind-3 : goal.returns-then-kind-3
unfolding uuid_size Rattle.laws.specs.Tests.pick
returns-then-kind-3 c = rw (c.if-kind.false, c.if-kind-2.false, c.if-kind-3.true)

pub returns : goal.returns
unfolding uuid_size Rattle.laws.specs.Tests.pick
returns c = rw (c.if-kind.false, c.if-kind-2.false, c.if-kind-3.false)
