use Rattle.ticks.specs.TableLaws.{move_same, move_down}
use native.Mathlib.Omega.{arith}
use Rattle.ticks.proofs.move_row.Goals as goal

pub returns-then-to-from : goal.returns-then-to-from
returns-then-to-from c = let a = c.args in
    move_same a.to a.from a.t.now (omega arith) (omega arith) (omega arith)

pub returns : goal.returns
returns c = let a = c.args in
    move_down a.to a.from a.t.now (omega arith) (omega arith) (omega arith)
    c.shift.ensures.0 c.shift.ensures.1
