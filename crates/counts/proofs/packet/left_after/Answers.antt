use native.Mathlib.Omega.{arith}
use Rattle.counts.specs.Turns.{left-yes, left-no}
use Rattle.counts.proofs.packet.left_after.Goals as goal

pub returns-then-start : goal.returns-then-start
returns-then-start c = (left-yes c.args.left c.if-start.true, omega arith)

pub returns : goal.returns
returns c = (left-no c.args.left c.if-start.false, omega arith)
