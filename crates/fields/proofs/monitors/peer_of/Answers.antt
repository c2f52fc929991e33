use Rattle.fields.specs.Monitors.{peer_of}
use borrow.Author.Rules.{rules}
use Rattle.fields.proofs.monitors.peer_of.Goals as goal

pub returns : goal.returns
unfolding peer_of
returns c = search rules
