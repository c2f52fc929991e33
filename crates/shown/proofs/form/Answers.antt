use Rattle.laws.specs.Tests.{pick}
use Rattle.shown.specs.Line.{form_of}
use Rattle.shown.proofs.form.Goals as goal

pub returns-then-good : goal.returns-then-good
unfolding form_of Rattle.laws.specs.Tests.pick
returns-then-good c = rw c.if-good.true

pub returns : goal.returns
unfolding form_of Rattle.laws.specs.Tests.pick
returns c = rw c.if-good.false
