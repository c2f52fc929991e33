use native.Mathlib.Omega.{arith}
use Rattle.resolve.specs.Laws.{prand-block}
use Rattle.resolve.proofs.prand_block.Goals as goal

pub returns : goal.returns
returns c = prand-block c.args.address.now (λ j. omega (arith, c.shared_slice_known-1.given j)) _
    c.column-d.ensures
