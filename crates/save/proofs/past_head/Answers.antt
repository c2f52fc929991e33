use native.Mathlib.Omega.{arith}
use Rattle.save.specs.PassedLaws.{head-none, head-there}
use Rattle.save.proofs.past_head.Goals as goal

pub returns-then-s-ne-SIZE : goal.returns-then-s-ne-SIZE
returns-then-s-ne-SIZE c = head-none c.args.s.now _ (λ e. c.if-s-ne-SIZE.true e)

pub returns : goal.returns
returns c = head-there c.args.s.now (omega arith) c.head.ensures
