use Rattle.packets.specs.AnswersTurns.{told_wrote, untold-wrote}
use Rattle.std.proofs.Common.{arith}
use Rattle.packets.proofs.reports.put_told.Goals as goal

pub returns-then-told : goal.returns-then-told
returns-then-told c = let a = c.args in (
  c.put_reports.ensures.0,
  told_wrote a.out.now a.at _
      c.if-told.true c.put_reports.ensures.1,
)

pub returns : goal.returns
returns c = let a = c.args in
    (omega arith, untold-wrote a.out.now a.at _ c.if-told.false)
