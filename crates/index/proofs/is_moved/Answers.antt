use native.Mathlib.Omega.{arith}
use Rattle.index.specs.RenewedLaws.{moved-count, moved-silent, moved-first}
use Rattle.index.proofs.is_moved.Goals as goal

pub returns-then-s-before : goal.returns-then-s-before
returns-then-s-before c = let a = c.args in
    moved-count a.before a.out.now a.n a.s.now c.if-s-before.true

pub returns-then-n-eq0 : goal.returns-then-n-eq0
returns-then-n-eq0 c = let a = c.args in
    moved-silent a.before a.out.now a.n a.s.now (omega arith) c.if-n-eq0.true

pub returns : goal.returns
returns c = let a = c.args in
    moved-first a.before a.out.now a.n a.s.now (omega arith) c.if-n-eq0.false c.get8.ensures
