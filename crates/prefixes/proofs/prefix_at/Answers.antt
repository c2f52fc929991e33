use Prim.Native.Nat.{◌+◌, ◌-◌, ◌*◌}
use Rattle.editions.specs.Block.{edition_size}
use Rattle.wholes.specs.Layout.{editions_at}
use native.Mathlib.Omega.{arith}
use mathlib.Core.Path.{refl}
use Rattle.prefixes.specs.ForceLaws.{row_written, row_sized}
use Rattle.prefixes.proofs.prefix_at.Goals as goal

pub shape_of-row : goal.shape_of-row
shape_of-row c = row_sized c.args.s.now c.args.i c.at_most-k.result _ c.requires.0 c.requires.1
    c.at_most-k.ensures.0 refl c.args.row.now
    (editions_at + edition_size * c.args.i + 4 + 1 + c.at_most-k.result -
    (editions_at + edition_size * c.args.i + 4 + 1)) c.requires.2 (omega arith) c.copy.ensures.0
    c.copy.ensures.1

pub returns : goal.returns
returns c = row_written c.args.s.now c.args.i c.at_most-k.result _ c.requires.0 c.requires.1
    c.at_most-k.ensures.0 refl c.args.row.now
    (editions_at + edition_size * c.args.i + 4 + 1 + c.at_most-k.result -
    (editions_at + edition_size * c.args.i + 4 + 1)) c.requires.2 (omega arith) c.copy.ensures.0
    c.copy.ensures.1
