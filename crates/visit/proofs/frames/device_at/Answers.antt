use Rattle.std.proofs.Common.{arith}
use Rattle.visit.specs.FramesLaws.{seven-read}
use Rattle.visit.proofs.frames.device_at.Goals as goal

pub returns : goal.returns
returns c = (
  seven-read c.args.l.now c.args.at c.requires c.get32-low.ensures
      c.get16-middle.ensures c.get8-high.ensures,
  omega arith,
)
