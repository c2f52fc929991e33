use Rattle.octets.specs.Little.{little}
use native.Mathlib.Omega.{arith}
use Rattle.octets.proofs.U16InOctets.read_in.Goals as goal

pub returns : goal.returns
unfolding little
returns c = omega arith
