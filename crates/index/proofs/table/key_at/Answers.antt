use native.Mathlib.Omega.{arith}
use Rattle.model.specs.Layout.{pair_size}
use Rattle.index.specs.ReadLaws.{key-read}
use Prim.Native.Nat.{◌*◌, ◌-◌, ◌+◌}
use Rattle.index.proofs.table.key_at.Goals as goal

pub returns : goal.returns
returns c = key-read c.args.pairs.now (pair_size * c.args.i) (pair_size * c.args.i + 8 - pair_size * c.args.i)
    (omega arith) (omega arith) c.get64.ensures
