use native.Mathlib.Omega.{arith}
use native.Mathlib.Nat.{zero-add}
use mathlib.Core.Path.{◌∙◌}
use Rattle.save.specs.Text.{rest_room, rest_text}
use Rattle.save.specs.StepsTurns.{part-sized, part-short, part-done}
use Rattle.save.proofs.save_rest.Goals as goal

pub returns-then-s-ne-SIZE : goal.returns-then-s-ne-SIZE
returns-then-s-ne-SIZE c = let a = c.args in
    part-sized rest_room a.s.now a.out.now (rest_text a.s.now) (λ e. c.if-s-ne-SIZE.true e)

pub returns-then-out-lt-REST : goal.returns-then-out-lt-REST
returns-then-out-lt-REST c = let a = c.args in
    part-short rest_room a.s.now a.out.now (rest_text a.s.now) (omega arith)

pub returns : goal.returns
returns c = let a = c.args in
    part-done rest_room a.s.now a.out.now (rest_text a.s.now) (omega arith) (omega arith)
    (c.put_rest.ensures.0 ∙ zero-add _) c.put_rest.ensures.1
