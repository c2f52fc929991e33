use Rattle.std.proofs.Common.{arith}
use Rattle.twin.specs.FiltersLaws.{event-read, sent-long}
use Rattle.twin.proofs.pairs.event_of.Goals as goal

pub bounds-payload_at-0 : goal.bounds-payload_at-0
bounds-payload_at-0 c = let k = sent-long c.args.t.now c.args.r _
    c.requires c.payload_at.ensures in
    omega (arith, k)

pub returns : goal.returns
returns c = event-read c.args.t.now c.args.r _
    c.payload_at.ensures
