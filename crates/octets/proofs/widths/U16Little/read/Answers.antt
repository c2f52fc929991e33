use Rattle.octets.specs.NumbersLaws.{number-of}
use Rattle.octets.proofs.widths.U16Little.read.Goals as goal

pub returns : goal.returns
returns c = let e = c.get16.ensures in (λ h. number-of 2 c.args.s.now c.args.at e h, e)
