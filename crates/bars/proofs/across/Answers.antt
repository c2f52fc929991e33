use native.Mathlib.Omega.{arith}
use Rattle.bars.specs.AxisLaws.{across-end, across-in}
use Rattle.bars.proofs.across.Goals as goal

pub returns-then-span-tick : goal.returns-then-span-tick
returns-then-span-tick c = across-end c.args.tick c.args.span (omega arith)

pub returns : goal.returns
returns c = across-in c.args.tick c.args.span (omega arith)
