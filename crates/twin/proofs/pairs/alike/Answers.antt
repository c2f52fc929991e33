use Rattle.std.proofs.Common.{arith}
use Rattle.twin.specs.FiltersLaws.{alike-none, alike-other, alike-asked}
use Rattle.twin.proofs.pairs.alike.Goals as goal

pub returns-in_default : goal.returns-in_default
returns-in_default c = rw c.in_default.is (alike-none c.args.t.now c.args.q)

pub event_of-requires : goal.event_of-requires
event_of-requires c = rw c.in-Some.is at c.requires.0

pub returns-then-event_of : goal.returns-then-event_of
returns-then-event_of c = rw c.in-Some.is
    (alike-other c.args.t.now c.in-Some.r c.args.q c.event_of.ensures c.event_of-2.ensures c.if-event_of.true)

pub data_of-requires : goal.data_of-requires
data_of-requires c = rw c.in-Some.is at c.requires.0

pub returns : goal.returns
returns c = rw c.in-Some.is
    (alike-asked c.args.t.now c.in-Some.r c.args.q
    c.event_of.ensures c.event_of-2.ensures (omega (arith, c.if-event_of.false))
    c.data_of.ensures c.data_of-2.ensures c.same.ensures)
