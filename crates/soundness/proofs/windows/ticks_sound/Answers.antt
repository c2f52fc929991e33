use Rattle.soundness.specs.BlankLaws.{ticks-none, ticks-some}
use Rattle.soundness.proofs.windows.ticks_sound.Goals as goal

pub returns-then-ticks-eq0 : goal.returns-then-ticks-eq0
returns-then-ticks-eq0 c = ticks-none _ _ c.if-ticks-eq0.true

pub returns : goal.returns
returns c = ticks-some _ _ c.if-ticks-eq0.false
