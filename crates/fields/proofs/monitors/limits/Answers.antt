use Rattle.words.specs.SaysLaws.{then}
use Rattle.fields.specs.Monitors.{limits_text}
use Rattle.model.specs.Quoted.{codes}
use Rattle.fields.proofs.monitors.limits.Goals as goal

pub returns : goal.returns
unfolding limits_text codes
returns c = then (then (then (then c.level-a.ensures c.level-b.ensures)
    c.octet-c.ensures) c.put-d.ensures) (rw c.get8.ensures at c.sampling.ensures)
