use native.Mathlib.Omega.{arith}
use Rattle.restore.specs.LinesLaws.{sized-block, sized-line, sized-both}
use Rattle.restore.proofs.store_line.Goals as goal

pub returns-then-s-ne-SIZE : goal.returns-then-s-ne-SIZE
returns-then-s-ne-SIZE c = let a = c.args in sized-block a.s.now a.line.now (λ e. c.if-s-ne-SIZE.true e)

pub returns-then-line-ne-LINE_ROW : goal.returns-then-line-ne-LINE_ROW
returns-then-line-ne-LINE_ROW c = let a = c.args in
    sized-line a.s.now a.line.now (λ e. c.if-line-ne-LINE_ROW.true e)

pub put_line-requires : goal.put_line-requires
put_line-requires c = (omega arith, omega arith)

pub returns : goal.returns
returns c = let a = c.args in
    sized-both a.s.now a.line.now (omega arith) (omega arith) c.put_line.ensures
