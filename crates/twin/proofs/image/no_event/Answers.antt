use Rattle.laws.specs.TestsLaws.{pick_true, pick-false}
use Rattle.std.proofs.Common.{sym, ◌∙◌}
use Rattle.twin.proofs.image.no_event.Goals as goal

pub returns-then-is_sifting : goal.returns-then-is_sifting
returns-then-is_sifting c = sym (pick_true _ _ (sym c.is_sifting.ensures ∙ c.if-is_sifting.true))

pub returns : goal.returns
returns c = sym (pick-false _ _ (sym c.is_sifting.ensures ∙ c.if-is_sifting.false))
