use Rattle.words.specs.SaysLaws.{nothing, then, taken, left}
use Rattle.model.specs.Quoted.{codes}
use borrow.Author.Tests.{eq-eqb, ne_eqb}
use Rattle.shown.specs.Commands.{returned_text}
use Rattle.shown.proofs.commands.returned.Goals as goal

pub returns-then-status-ne0 : goal.returns-then-status-ne0
unfolding returned_text
returns-then-status-ne0 c = left _ _ (ne_eqb _ _ c.if-status-ne0.true) (nothing _ _)

pub returns-then-sub : goal.returns-then-sub
unfolding returned_text codes
returns-then-sub c = taken _ _ (eq-eqb _ _ c.if-status-ne0.false)
    (taken _ _ c.if-sub.true c.octet.ensures)

pub returns-then-sub-eq-FEATURES : goal.returns-then-sub-eq-FEATURES
unfolding returned_text codes
returns-then-sub-eq-FEATURES c = taken _ _ (eq-eqb _ _ c.if-status-ne0.false)
    (left _ _ c.if-sub.false (taken _ _ (eq-eqb _ _ c.if-sub-eq-FEATURES.true)
    (then (rw c.part.ensures at c.number-a.ensures)
    (rw c.behind.ensures at c.prefix.ensures))))

pub returns : goal.returns
unfolding returned_text
returns c = taken _ _ (eq-eqb _ _ c.if-status-ne0.false)
    (left _ _ c.if-sub.false (left _ _ (ne_eqb _ _ c.if-sub-eq-FEATURES.false) (nothing _ _)))
