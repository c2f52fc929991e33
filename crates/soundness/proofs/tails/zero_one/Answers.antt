use native.Mathlib.Omega.{arith}
use Rattle.soundness.specs.TailsLaws.{zeros-last, zeros-none}
use Rattle.soundness.proofs.tails.zero_one.Goals as goal

pub returns-then-i-r : goal.returns-then-i-r
returns-then-i-r c = zeros-last c.args.r.now c.args.i (omega arith) (omega arith)

pub returns : goal.returns
returns c = zeros-none c.args.r.now c.args.i (omega arith)
