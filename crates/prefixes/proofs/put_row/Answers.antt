use Prim.Native.Nat.{◌+◌, ◌-◌, ◌*◌}
use Rattle.editions.specs.Block.{edition_size}
use Rattle.wholes.specs.Layout.{editions_at}
use native.Mathlib.Omega.{arith}
use mathlib.Core.Path.{refl}
use Rattle.prefixes.specs.LaidLaws.{row_put_lem}
use Rattle.prefixes.proofs.put_row.Goals as goal

pub returns : goal.returns
returns c = row_put_lem c.args.s.now c.args.row.now c.args.i c.at_most-k.result _
    c.number_at.result c.requires.0 c.requires.1 c.requires.2 c.number_at.ensures
    c.at_most-k.ensures.0 refl
    (editions_at + edition_size * c.args.i + 4 + 1 + c.at_most-k.result -
    (editions_at + edition_size * c.args.i + 4 + 1)) (omega arith) c.put32.ensures.0
    c.put32.ensures.1 c.put8.ensures.0 c.put8.ensures.1
    c.copy.ensures.0 c.copy.ensures.1
