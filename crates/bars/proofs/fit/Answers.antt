use native.Mathlib.Omega.{arith}
use Rattle.bars.specs.AxisLaws.{fit-a, fit-b, fit-c, fit-other}
use Rattle.bars.proofs.fit.Goals as goal

pub returns-then-least-a : goal.returns-then-least-a
returns-then-least-a c = fit-a c.args.span c.args.a c.args.b c.args.c
    c.args.other (omega arith)

pub returns-then-least-b : goal.returns-then-least-b
returns-then-least-b c = fit-b c.args.span c.args.a c.args.b
    c.args.c c.args.other (omega arith) (omega arith)

pub returns-then-least-c : goal.returns-then-least-c
returns-then-least-c c = fit-c c.args.span c.args.a
    c.args.b c.args.c c.args.other
    (omega arith) (omega arith) (omega arith)

pub returns : goal.returns
returns c = fit-other c.args.span c.args.a
    c.args.b c.args.c c.args.other
    (omega arith) (omega arith) (omega arith)
