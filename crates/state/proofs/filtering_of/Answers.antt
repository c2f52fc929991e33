use Rattle.blocks.specs.AddedLaws.{filtering-first, filtering-second}
use Rattle.state.proofs.filtering_of.Goals as goal

pub returns-then-options-eq0 : goal.returns-then-options-eq0
returns-then-options-eq0 c = let a = c.args in filtering-first a.options a.filtering c.if-options-eq0.true

pub returns : goal.returns
returns c = let a = c.args in filtering-second a.options a.filtering c.if-options-eq0.false
