use Rattle.visit.specs.Frames.{number_of}
use Rattle.visit.proofs.frames.number_of.Goals as goal

pub returns : goal.returns
unfolding number_of
returns c = c.get32.ensures
