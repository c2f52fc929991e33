use Prim.Native.Nat.{◌+◌, ◌-◌, ◌*◌}
use mathlib.Core.Path.{refl}
use native.Mathlib.Omega.{arith}
use Rattle.wholes.specs.Layout.{entry_size}
use Rattle.index.specs.WrittenLaws.{entry-written}
use Rattle.index.proofs.table.put_entry.Goals as goal

pub returns : goal.returns
returns c = let from = entry_size * c.args.k in
    let f = c.put_row in
    entry-written c.args.table.now c.args.k c.args.dev c.args.bit (from + entry_size - from)
    c.requires.1 (omega arith) (omega arith) f.new.row _ f.ensures refl
