use Rattle.octets.specs.LittleLaws.{little-add}
use native.Mathlib.Omega.{arith}
use Rattle.octets.proofs.U64InOctets.read_in.Goals as goal

pub returns : goal.returns
returns c = omega (
  arith,
  little-add 4 4 c.args.s.now
      c.args.at,
)
