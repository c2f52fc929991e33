use Rattle.fields.specs.Data.{uuid_in}
use Rattle.model.specs.Quoted.{codes}
use Rattle.fields.proofs.data.next_uuid.Goals as goal

pub returns : goal.returns
unfolding uuid_in codes
returns c = c.uuid.ensures
