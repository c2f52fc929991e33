use Rattle.words.specs.SaysLaws.{taken, left}
use Rattle.fields.specs.Monitors.{single_text}
use Rattle.model.specs.Quoted.{codes}
use Rattle.fields.proofs.monitors.single.Goals as goal

pub returns-then-kind-formed : goal.returns-then-kind-formed
unfolding single_text codes
returns-then-kind-formed c = taken _ _
    (rw c.is_uuid-formed.ensures at
    c.if-kind-formed.true) (rw c.behind.ensures at c.uuid.ensures)

pub returns-then-kind-n : goal.returns-then-kind-n
unfolding single_text codes
returns-then-kind-n c = left _ _
    (rw c.is_uuid-formed.ensures at
    c.if-kind-formed.false)
    (taken _ _ c.if-kind-n.true c.number.ensures)

pub returns-then-kind-n-2 : goal.returns-then-kind-n-2
unfolding single_text codes
returns-then-kind-n-2 c = left _ _ (rw c.is_uuid-formed.ensures at c.if-kind-formed.false)
    (left _ _ c.if-kind-n.false (taken _ _ (rw c.get8-first.ensures at c.if-kind-n-2.true)
    (rw c.device_of.ensures at c.device.ensures)))

pub returns : goal.returns
unfolding single_text codes
returns c = left _ _ (rw c.is_uuid-formed.ensures at c.if-kind-formed.false)
    (left _ _ c.if-kind-n.false (left _ _ (rw c.get8-first.ensures at c.if-kind-n-2.false)
    c.unknown.ensures))
