use mathlib.Core.Path.{sym, ◌∙◌}
use Rattle.reports.specs.ChoicesLaws.{three-image, three-journal, three-so}
use Rattle.reports.proofs.are_three.Goals as goal

pub returns-then-both_dashes : goal.returns-then-both_dashes
returns-then-both_dashes c = three-image _ _ _ (sym c.both_dashes.ensures ∙ c.if-both_dashes.true)

pub returns-then-both_dashes-2 : goal.returns-then-both_dashes-2
returns-then-both_dashes-2 c = three-journal _ _ _ (sym c.both_dashes-2.ensures ∙ c.if-both_dashes-2.true)

pub returns : goal.returns
returns c = three-so _ _ _ c.are_names.result
    (sym c.both_dashes.ensures ∙ c.if-both_dashes.false)
    (sym c.both_dashes-2.ensures ∙ c.if-both_dashes-2.false) c.are_names.ensures
