use native.Mathlib.Omega.{arith}
use Rattle.fips197.specs.WordsLaws.{octets-turn}
use Rattle.aes.proofs.turn1.Goals as goal

pub returns : goal.returns
returns c = octets-turn c.args.w (omega arith)
