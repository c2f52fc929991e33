use Rattle.advert.specs.Condition.{form_status}
use lib.Dec.{eqb}
use Prim.Native.Nat.{ℕ}
use mathlib.Core.Bool.{Bool, ◌&&◌}
use mathlib.Core.Path.{refl, sym, ap, ◌∙◌}
use Rattle.laws.specs.TestsLaws.{and-not-left}
use Rattle.soundness.specs.CodeLaws.{row-formed}
use Rattle.soundness.proofs.formed.Goals as goal

pub returns-then-not-settings_good : goal.returns-then-not-settings_good
returns-then-not-settings_good c = sym (and-not-left c.settings_good.result _ (c.if-not-settings_good.true))
    ∙ row-formed c.args.r.now c.args.n c.requires.1 c.settings_good.ensures refl

pub returns : goal.returns
returns c = sym (ap (λ (t : Bool). t && eqb c.status_of.result 0)
    (c.if-not-settings_good.false))
    ∙ row-formed c.args.r.now c.args.n c.requires.1 c.settings_good.ensures
    (ap (λ (n : ℕ). eqb n 0) (c.status_of.ensures ∙ ap form_status c.condition_form-form.ensures))
