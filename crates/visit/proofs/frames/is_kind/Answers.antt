use Rattle.visit.specs.Frames.{octet_of}
use Rattle.visit.specs.FramesLaws.{kind-read}
use Rattle.visit.proofs.frames.is_kind.Goals as goal

pub returns : goal.returns
returns c = rw c.octet.ensures (kind-read c.args.frame.now (octet_of c.args.kind) c.get8.ensures)
