use Rattle.prefixes.specs.HeldLaws.{from-read}
use Rattle.prefixes.proofs.number_at.Goals as goal

pub returns : goal.returns
returns c = from-read c.args.s.now c.args.i c.requires.0 c.requires.1 c.get32.ensures
