use Rattle.ticks.specs.EmptiedLaws.{emptied-of}
use Rattle.ticks.proofs.empty_window.Goals as goal

pub returns : goal.returns
returns c = emptied-of c.args.r.now c.requires c.fill.ensures.0 c.fill.ensures.1
    c.fill-2.ensures.0 c.fill-2.ensures.1
