use Rattle.laws.specs.TestsLaws.{pick_true, pick-false}
use Rattle.std.proofs.Common.{sym, ◌∙◌}
use Rattle.twin.proofs.pairs.start_reason.Goals as goal

pub returns-then-allows : goal.returns-then-allows
returns-then-allows c = sym (pick_true _ _ (sym c.allows.ensures ∙ c.if-allows.true))

pub returns : goal.returns
returns c = sym (pick-false _ _ (sym c.allows.ensures ∙ c.if-allows.false))
