use Rattle.octets.specs.NumbersLaws.{number-of}
use Rattle.octets.proofs.widths.U32Little.read.Goals as goal

pub returns : goal.returns
returns c = let e = c.get32.ensures in (λ h. number-of 4 c.args.s.now c.args.at e h, e)
