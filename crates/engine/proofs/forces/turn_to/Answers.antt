use mathlib.Core.Path.{sym, ◌∙◌}
use Rattle.laws.specs.TestsLaws.{pick_true, pick-false}
use Rattle.engine.proofs.forces.turn_to.Goals as goal

pub returns-then-begins : goal.returns-then-begins
returns-then-begins c = c.enforce.ensures ∙ sym (pick_true _ _ c.if-begins.true)

pub returns-else-begins : goal.returns-else-begins
returns-else-begins c = sym (pick-false _ _ c.if-begins.false)
