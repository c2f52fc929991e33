use Rattle.soundness.specs.CodeLaws.{added_none, added-some}
use Rattle.soundness.proofs.added_sound.Goals as goal

pub returns-then-r-eq0 : goal.returns-then-r-eq0
returns-then-r-eq0 c = added_none c.args.r.now c.requires
    c.if-r-eq0.true c.zeros_from.ensures

pub returns : goal.returns
returns c = added-some c.args.r.now c.requires c.if-r-eq0.false c.is_allowed.ensures
