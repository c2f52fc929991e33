use mathlib.Core.Path.{sym, ◌∙◌}
use Rattle.words.specs.SaysLaws.{then, taken, left}
use Rattle.fields.specs.Data.{structure_text}
use Rattle.model.specs.Quoted.{codes}
use Rattle.fields.proofs.data.structure.Goals as goal

pub returns-then-is_whole : goal.returns-then-is_whole
unfolding structure_text codes
returns-then-is_whole c = taken _ _ (sym c.is_whole.ensures ∙ c.if-is_whole.true) (then (then c.put-a.ensures
    (rw c.get8-kind.ensures at c.ad-b.ensures)) (rw (
      c.get8-kind.ensures,
      c.behind.ensures,
    ) at c.value.ensures))

pub returns : goal.returns
unfolding structure_text codes
returns c = left _ _
    (sym c.is_whole.ensures ∙ c.if-is_whole.false)
    c.hex.ensures
