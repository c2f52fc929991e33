use Rattle.words.specs.SaysLaws.{then, taken, left}
use Rattle.fields.specs.Monitors.{condition_text}
use Rattle.model.specs.Quoted.{codes}
use Rattle.fields.proofs.monitors.condition.Goals as goal

pub returns-then-kind-s : goal.returns-then-kind-s
unfolding condition_text codes
returns-then-kind-s c = taken _ _ c.if-kind-s.true (then c.octet-a.ensures
    (rw c.behind.ensures at c.patterns.ensures))

pub returns : goal.returns
unfolding condition_text
returns c = left _ _ c.if-kind-s.false c.single.ensures
