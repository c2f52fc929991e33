use Rattle.decimals.specs.ReadingLaws.{grown-low, grown-high, grown-far, grown-on}
use native.Mathlib.Omega.{arith}
use Rattle.decimals.proofs.grown.Goals as goal

pub returns-then-c-lt-ZERO : goal.returns-then-c-lt-ZERO
returns-then-c-lt-ZERO c = let a = c.args in grown-low a.value a.c c.if-c-lt-ZERO.true

pub returns-then-c-gt-NINE : goal.returns-then-c-gt-NINE
returns-then-c-gt-NINE c = let a = c.args in grown-high a.value a.c c.if-c-gt-NINE.true

pub returns-then-value-gt-LAST : goal.returns-then-value-gt-LAST
returns-then-value-gt-LAST c = let a = c.args in grown-far a.value a.c c.if-value-gt-LAST.true

pub returns : goal.returns
returns c = let a = c.args in
    rw c.from.ensures (grown-on a.value a.c (omega arith) (omega arith) (omega arith))
