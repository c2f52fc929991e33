use native.Mathlib.Omega.{arith}
use Rattle.octets.specs.Little.{little}
use Rattle.resolve.specs.Resolve.{hash_of}
use Rattle.resolve.proofs.hash.Goals as goal

pub returns : goal.returns
unfolding hash_of little
returns c = omega (
  arith,
  c.from.ensures,
  c.from-2.ensures,
  c.from-3.ensures,
)
