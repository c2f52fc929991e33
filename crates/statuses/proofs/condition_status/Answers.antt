use Rattle.statuses.specs.AnswersLaws.{form-wrong, form-long, form-good}
use Rattle.statuses.specs.CodesLaws.{form-invalid}
use Rattle.advert.specs.Condition.{form_status}
use mathlib.Core.Path.{ap, ◌∙◌}
use native.Mathlib.Omega.{arith}
use Rattle.statuses.proofs.condition_status.Goals as goal

pub returns-then-status_of-ne0 : goal.returns-then-status_of-ne0
returns-then-status_of-ne0 c =
    let f = c.condition_form-form in
    let n = form-invalid f.result (λ e. c.if-status_of-ne0.true (c.status_of.ensures ∙ e)) in
    form-wrong _ _ (n ∙ ap form_status f.ensures) (λ e. omega (arith, e))

pub returns-then-condition-gt-CONDITION : goal.returns-then-condition-gt-CONDITION
returns-then-condition-gt-CONDITION c = form-long _ _
    (c.status_of.ensures ∙ ap form_status c.condition_form-form.ensures)
    (omega arith) c.if-condition-gt-CONDITION.true

pub returns : goal.returns
returns c = form-good _ _
    (c.status_of.ensures ∙ ap form_status c.condition_form-form.ensures)
    (omega arith) c.if-condition-gt-CONDITION.false
