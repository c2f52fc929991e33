use native.Mathlib.Omega.{arith}
use Rattle.resolve.specs.Laws.{key-block}
use Rattle.resolve.proofs.key_block.Goals as goal

pub returns : goal.returns
returns c = key-block c.args.key.now (λ j. omega (arith, c.shared_slice_known-1.given j)) _ _ _ _
    c.column-a.ensures c.column-b.ensures c.column-c.ensures
    c.column-d.ensures
