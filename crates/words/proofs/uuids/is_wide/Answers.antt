use Rattle.words.specs.Uuids.{is_wide}
use Rattle.words.proofs.uuids.is_wide.Goals as goal

pub returns : goal.returns
unfolding is_wide
returns c = rw c.get16.ensures
