use mathlib.Core.Path.{sym, ◌∙◌}
use Rattle.additions.specs.AnswersTurns.{octets-other, octets-added, form-long}
use Rattle.additions.proofs.give_octets.Goals as goal

pub returns-then-not-is_addition : goal.returns-then-not-is_addition
returns-then-not-is_addition c = octets-other _ _ (sym c.is_addition.ensures ∙ c.if-not-is_addition.true)

pub slice_bounds-add-count : goal.slice_bounds-add-count
slice_bounds-add-count c = form-long _
    (sym c.is_addition.ensures ∙ c.if-not-is_addition.false)

pub slice_bounds-add-start : goal.slice_bounds-add-start
slice_bounds-add-start c = form-long _ (sym c.is_addition.ensures ∙ c.if-not-is_addition.false)

pub returns : goal.returns
returns c = octets-added _ _ c.get32-number.result _ _
    (sym c.is_addition.ensures
    ∙ c.if-not-is_addition.false) c.get32-number.ensures
    c.add.ensures
