use mathlib.Core.Path.{sym, ◌∙◌}
use Rattle.laws.specs.TestsLaws.{pick_true, pick-false}
use Rattle.counts.proofs.packet.reports_if.Goals as goal

pub returns-then-cause : goal.returns-then-cause
returns-then-cause c = c.reports_of.ensures ∙ sym (pick_true _ _ c.if-cause.true)

pub returns : goal.returns
returns c = sym (pick-false _ _ c.if-cause.false)
