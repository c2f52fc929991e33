use Rattle.reports.specs.MessagesLaws.{warns-so, warns-some, warns-none}
use native.Mathlib.Omega.{arith}
use Rattle.reports.proofs.messages.warns.Goals as goal

pub returns-then-flow-ne0 : goal.returns-then-flow-ne0
returns-then-flow-ne0 c = warns-some c.args.flow (λ z. c.if-flow-ne0.true z)

pub returns-then-flow-eq0 : goal.returns-then-flow-eq0
returns-then-flow-eq0 c = warns-none c.args.flow (omega arith)

pub returns : goal.returns
returns c = warns-so c.args.flow c.ended.result (omega arith)
    c.if-flow-eq0.false c.ended.ensures
