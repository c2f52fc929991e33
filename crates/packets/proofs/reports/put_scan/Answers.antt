use Rattle.packets.specs.AnswersTurns.{scan-unwritten, scan-wrote}
use Rattle.std.proofs.Common.{arith}
use Rattle.packets.proofs.reports.put_scan.Goals as goal

pub returns-then-n-from : goal.returns-then-n-from
returns-then-n-from c = let a = c.args in
    scan-unwritten a.out.now a.at a.payload.now c.requires.1
    c.wide-from.ensures.0 c.if-n-from.true

pub returns : goal.returns
returns c = let a = c.args in
    scan-wrote a.out.now a.at a.payload.now c.requires.1 c.wide-from.ensures.0 (omega arith)
    c.requires.0 c.put_report.ensures
