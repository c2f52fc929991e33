use native.Mathlib.Omega.{arith}
use Rattle.model.specs.Layout.{head_line}
use Rattle.save.specs.Text.{head_text}
use Rattle.save.specs.StepsTurns.{part-sized, part-short, part-done}
use Rattle.save.proofs.save_head.Goals as goal

pub returns-then-s-ne-SIZE : goal.returns-then-s-ne-SIZE
returns-then-s-ne-SIZE c = let a = c.args in
    part-sized head_line a.s.now a.out.now (head_text a.s.now) (λ e. c.if-s-ne-SIZE.true e)

pub returns-then-out-lt-HEAD : goal.returns-then-out-lt-HEAD
returns-then-out-lt-HEAD c = let a = c.args in
    part-short head_line a.s.now a.out.now (head_text a.s.now) (omega arith)

pub returns : goal.returns
returns c = let a = c.args in
    part-done head_line a.s.now a.out.now (head_text a.s.now) (omega arith) (omega arith)
    c.put_head.ensures.0 c.put_head.ensures.1
