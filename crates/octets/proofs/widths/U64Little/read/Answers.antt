use Rattle.octets.specs.NumbersLaws.{number-of}
use Rattle.octets.proofs.widths.U64Little.read.Goals as goal

pub returns : goal.returns
returns c = let e = c.get64.ensures in (λ h. number-of 8 c.args.s.now c.args.at e h, e)
