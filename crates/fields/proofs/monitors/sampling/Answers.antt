use Rattle.words.specs.SaysLaws.{then, taken, left}
use Rattle.fields.specs.Monitors.{sampling_text}
use Rattle.model.specs.Quoted.{codes}
use borrow.Author.Tests.{eq-eqb, ne_eqb}
use Rattle.fields.proofs.monitors.sampling.Goals as goal

pub returns-then-x-eq-EVERY : goal.returns-then-x-eq-EVERY
unfolding sampling_text codes
returns-then-x-eq-EVERY c = taken _ _ (eq-eqb _ _ c.if-x-eq-EVERY.true) c.put.ensures

pub returns-then-x-eq-NEVER : goal.returns-then-x-eq-NEVER
unfolding sampling_text codes
returns-then-x-eq-NEVER c = left _ _ (ne_eqb _ _ c.if-x-eq-EVERY.false)
    (taken _ _ (eq-eqb _ _ c.if-x-eq-NEVER.true) c.put-then-x-eq-NEVER.ensures)

pub returns : goal.returns
unfolding sampling_text codes
returns c = left _ _ (ne_eqb _ _ c.if-x-eq-EVERY.false)
    (left _ _ (ne_eqb _ _ c.if-x-eq-NEVER.false) (then c.said-a.ensures c.put-2.ensures))
