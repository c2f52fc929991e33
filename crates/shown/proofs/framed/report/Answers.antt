use Rattle.words.specs.SaysLaws.{then}
use Rattle.model.specs.Quoted.{codes}
use Rattle.shown.specs.Frames.{report_text}
use Rattle.shown.proofs.framed.report.Goals as goal

pub returns : goal.returns
unfolding report_text codes
returns c = (then c.put-a.ensures (rw c.behind.ensures at c.packet.ensures))
