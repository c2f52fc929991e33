use mathlib.Core.Bool.{not}
use Rattle.std.proofs.Common.{ap}
use Rattle.soundness.specs.EarlyLaws.{seen-long, seen-kind, seen-kept}
use Rattle.soundness.proofs.seen_sound.Goals as goal

pub returns-then-not-below : goal.returns-then-not-below
returns-then-not-below c = seen-long c.args.interval
    c.args.r.now c.requires
    c.get16.ensures
    c.ticks.ensures c.below.ensures (ap not c.if-not-below.true)

pub returns-then-r-gt1 : goal.returns-then-r-gt1
returns-then-r-gt1 c = seen-kind c.args.interval c.args.r.now c.requires c.get16.ensures
    c.ticks.ensures c.below.ensures c.if-r-gt1.true

pub returns : goal.returns
returns c = seen-kept c.args.interval c.args.r.now c.requires c.get16.ensures
    c.ticks.ensures c.below.ensures (ap not c.if-not-below.false) c.if-r-gt1.false
    c.in_range.ensures
