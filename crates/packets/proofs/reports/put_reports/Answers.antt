use Rattle.packets.specs.AnswersTurns.{reports-wrote}
use Rattle.packets.proofs.reports.put_reports.Goals as goal

pub returns : goal.returns
returns c = let a = c.args in
    reports-wrote a.out.now a.at a.payload.now c.requires.0 c.put_adv-r.ensures
    c.put_scan-k.ensures
