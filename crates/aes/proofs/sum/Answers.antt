use Rattle.fips197.specs.WordsLaws.{octets-xor}
use Rattle.aes.proofs.sum.Goals as goal

pub returns : goal.returns
returns c = octets-xor c.args.x c.args.y
