use mathlib.Core.Path.{sym}
use borrow.Author.Tests.{eq-eqb, ne_eqb}
use Rattle.laws.specs.TestsLaws.{pick_true, pick-false}
use Rattle.statuses.specs.Statuses.{type_by}
use Rattle.statuses.proofs.type_at.Goals as goal

pub returns-then-sub-eq15 : goal.returns-then-sub-eq15
unfolding type_by
returns-then-sub-eq15 c = sym (pick_true 30 5 (eq-eqb _ 15 c.if-sub-eq15.true))

pub returns : goal.returns
unfolding type_by
returns c = sym (pick-false 30 5 (ne_eqb _ 15 c.if-sub-eq15.false))
