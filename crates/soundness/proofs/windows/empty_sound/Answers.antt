use mathlib.Core.Path.{sym, ap, ◌∙◌}
use mathlib.Core.Bool.{Bool, ◌&&◌}
use lib.Dec.{eqb}
use borrow.Author.Tests.{le-leb, lt-leb}
use Rattle.laws.specs.TestsLaws.{pick_true, pick-false}
use Rattle.soundness.specs.Fields.{empty_test}
use Rattle.soundness.proofs.windows.empty_sound.Goals as goal

pub returns-then-packets-ge1 : goal.returns-then-packets-ge1
unfolding empty_test
returns-then-packets-ge1 c = sym (pick_true _ _ (le-leb 1 _ c.if-packets-ge1.true))

pub returns : goal.returns
unfolding empty_test
returns c = ap (λ (t : Bool). eqb c.args.sum 0 && t) c.latest_sound-latest.ensures
    ∙ sym (pick-false _ _ (lt-leb 1 _ c.if-packets-ge1.false))
