use mathlib.Core.Path.{sym}
use Rattle.laws.specs.TestsLaws.{pick_true, pick-false}
use Rattle.soundness.specs.Fields.{latest_test}
use Rattle.soundness.proofs.windows.latest_sound.Goals as goal

pub returns-then-sifts : goal.returns-then-sifts
unfolding latest_test
returns-then-sifts c = sym (pick_true _ _ c.if-sifts.true)

pub returns : goal.returns
unfolding latest_test
returns c = sym (pick-false _ _ c.if-sifts.false)
