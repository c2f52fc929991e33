use Rattle.commands.specs.KeptLaws.{kept-drop, kept_move}
use native.Mathlib.Omega.{arith}
use Rattle.commands.proofs.keep_row.Goals as goal

pub returns-then-h-s : goal.returns-then-h-s
returns-then-h-s c = let a = c.args in kept-drop a.h a.s.now a.i a.k c.if-h-s.true

pub returns : goal.returns
returns c = let a = c.args in
    kept_move a.h a.s.now a.i a.k c.if-h-s.false (omega arith) (omega arith)
    c.shift.ensures
