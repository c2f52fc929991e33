use Rattle.words.specs.SaysLaws.{taken, left}
use Rattle.fields.specs.Data.{value_text}
use Rattle.model.specs.Quoted.{codes}
use Rattle.fields.proofs.data.value.Goals as goal

pub returns-then-kind : goal.returns-then-kind
unfolding value_text
returns-then-kind c = taken _ _ c.if-kind.true c.quoted.ensures

pub returns-then-kind-s : goal.returns-then-kind-s
unfolding value_text codes
returns-then-kind-s c = left _ _ c.if-kind.false
    (taken _ _ c.if-kind-s.true c.level.ensures)

pub returns : goal.returns
unfolding value_text
returns c = left _ _ c.if-kind.false
    (left _ _ c.if-kind-s.false c.special.ensures)
