use native.Mathlib.Omega.{arith}
use Rattle.counts.specs.FramesLaws.{wrong_size, adds-frame}
use Rattle.counts.proofs.added_by.Goals as goal

pub returns-then-s-ne-SIZE : goal.returns-then-s-ne-SIZE
returns-then-s-ne-SIZE c = let a = c.args in
    λ m e b h n. wrong_size a.s.now m c.if-s-ne-SIZE.true e b

pub returns-then-frame-lt5 : goal.returns-then-frame-lt5
returns-then-frame-lt5 c = λ m e b h n. absurd (omega (arith, c.if-frame-lt5.true, n))

pub returns : goal.returns
returns c = let a = c.args in
    λ m e b h n. adds-frame a.frame.now m (c.of_kind.ensures m e b h)
