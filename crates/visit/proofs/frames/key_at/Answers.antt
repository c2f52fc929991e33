use Rattle.visit.specs.FramesLaws.{pair-key}
use Rattle.visit.proofs.frames.key_at.Goals as goal

pub returns : goal.returns
returns c = pair-key c.args.block.now c.args.i c.requires.0 c.requires.1 _ _ c.device_at.ensures.0
    c.get8-handle.ensures
