use Rattle.words.specs.SaysLaws.{taken, left}
use borrow.Author.Tests.{eq-eqb, ne_eqb}
use Rattle.shown.specs.Commands.{parameters_text}
use Rattle.shown.proofs.commands.parameters.Goals as goal

pub returns-then-sub-eq-ADD : goal.returns-then-sub-eq-ADD
unfolding parameters_text
returns-then-sub-eq-ADD c = taken _ _ (eq-eqb _ _ c.if-sub-eq-ADD.true) c.add.ensures

pub returns-then-sub-eq-ADD_2 : goal.returns-then-sub-eq-ADD_2
unfolding parameters_text
returns-then-sub-eq-ADD_2 c = left _ _ (ne_eqb _ _ c.if-sub-eq-ADD.false)
    (taken _ _ (eq-eqb _ _ c.if-sub-eq-ADD_2.true) c.add_2.ensures)

pub returns-then-sub-eq-CANCEL : goal.returns-then-sub-eq-CANCEL
unfolding parameters_text
returns-then-sub-eq-CANCEL c = left _ _ (ne_eqb _ _ c.if-sub-eq-ADD.false)
    (left _ _ (ne_eqb _ _ c.if-sub-eq-ADD_2.false)
    (taken _ _ (eq-eqb _ _ c.if-sub-eq-CANCEL.true) c.cancel.ensures))

pub returns-then-sub-eq-ENABLE : goal.returns-then-sub-eq-ENABLE
unfolding parameters_text
returns-then-sub-eq-ENABLE c = left _ _ (ne_eqb _ _ c.if-sub-eq-ADD.false)
    (left _ _ (ne_eqb _ _ c.if-sub-eq-ADD_2.false)
    (left _ _ (ne_eqb _ _ c.if-sub-eq-CANCEL.false)
    (taken _ _ (eq-eqb _ _ c.if-sub-eq-ENABLE.true) c.enable.ensures)))

pub returns : goal.returns
unfolding parameters_text
returns c = left _ _ (ne_eqb _ _ c.if-sub-eq-ADD.false)
    (left _ _ (ne_eqb _ _ c.if-sub-eq-ADD_2.false)
    (left _ _ (ne_eqb _ _ c.if-sub-eq-CANCEL.false)
    (left _ _ (ne_eqb _ _ c.if-sub-eq-ENABLE.false) c.raw.ensures)))
