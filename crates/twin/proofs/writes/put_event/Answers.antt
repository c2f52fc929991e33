use Rattle.twin.specs.EventsLaws.{event-put}
use Rattle.twin.proofs.writes.put_event.Goals as goal

pub returns : goal.returns
returns c = event-put c.args.head.now c.args.p.now c.args.h c.args.state
    c.args.out.now c.args.at c.requires.0 c.requires.1 c.requires.2
    c.copy.ensures.0 c.copy.ensures.1 c.at_most-n.ensures.0
    c.put_event.ensures
