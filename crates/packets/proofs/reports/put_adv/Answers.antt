use Rattle.packets.specs.AnswersTurns.{adv-wrote}
use Rattle.packets.proofs.reports.put_adv.Goals as goal

pub returns : goal.returns
returns c = let a = c.args in
    adv-wrote a.out.now a.at a.payload.now c.requires.1 c.requires.0 c.wide-end.ensures.0
    c.put_report.ensures
