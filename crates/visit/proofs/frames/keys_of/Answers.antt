use Rattle.visit.specs.FramesLaws.{keys-read}
use Rattle.visit.proofs.frames.keys_of.Goals as goal

pub returns : goal.returns
returns c = keys-read c.args.frame.now _ c.get8.ensures
