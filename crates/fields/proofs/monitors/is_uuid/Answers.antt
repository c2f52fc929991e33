use Rattle.fields.specs.Monitors.{is_uuid}
use Rattle.fields.proofs.monitors.is_uuid.Goals as goal

pub returns : goal.returns
unfolding is_uuid
returns c = rw c.get8-kind.ensures
