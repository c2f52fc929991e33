use Rattle.laws.specs.Rows.{row}
use lib.ListN.{length}
use Prim.Native.Nat.{◌-◌}
use mathlib.Core.Path.{◌≡◌, refl}
use Rattle.ticks.specs.TableLaws.{moved_row, kept_row_lem, length-of}
use native.Mathlib.Omega.{arith}
use Rattle.model.specs.Layout.{pair_size}
use Rattle.ticks.proofs.keep_row.Goals as goal

pub advance-requires : goal.advance-requires
advance-requires c = let a = c.args in
    let n : length (row pair_size a.from a.t.now) ≡ pair_size = length-of a.from a.t.now (omega arith)
    (omega arith) in
    rw (moved_row a.to a.from a.period a.t.now (omega arith) (omega arith) (omega arith)
    c.move_row.ensures) (omega arith, omega arith)

pub returns : goal.returns
returns c = let a = c.args in
    kept_row_lem a.to a.from a.period a.t.now (omega arith) (omega arith) (omega arith)
    c.move_row.ensures c.advance.ensures refl
