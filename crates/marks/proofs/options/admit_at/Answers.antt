use mathlib.Core.Path.{sym, ◌∙◌}
use Rattle.laws.specs.TestsLaws.{pick_true, pick-false}
use Rattle.marks.proofs.AdmittedLaws.{admit-none}
use Rattle.marks.proofs.options.admit_at.Goals as goal

pub returns-then-a-eq0 : goal.returns-then-a-eq0
returns-then-a-eq0 c = admit-none _ _ c.if-a-eq0.true

pub returns-then-admits_at : goal.returns-then-admits_at
returns-then-admits_at c = sym (pick_true _ 0 (sym c.admits_at.ensures ∙ c.if-admits_at.true))

pub returns : goal.returns
returns c = sym (pick-false _ 0 (sym c.admits_at.ensures ∙ c.if-admits_at.false))
