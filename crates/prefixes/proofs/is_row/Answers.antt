use native.Mathlib.Omega.{arith}
use Prim.Native.Nat.{◌+◌, ◌-◌, ◌*◌}
use Rattle.wholes.specs.Layout.{editions_at}
use Rattle.editions.specs.Block.{edition_size}
use Rattle.prefixes.specs.LaidLaws.{row_same}
use Rattle.prefixes.proofs.is_row.Goals as goal

pub returns : goal.returns
returns c = let a = c.args in
    let from = editions_at + edition_size * a.i in
    row_same a.s.now a.i (from + edition_size - from) c.put_row.ensures (omega arith)
    c.same.ensures
