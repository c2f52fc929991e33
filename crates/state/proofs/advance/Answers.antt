use Rattle.std.proofs.Common.{refl}
use Rattle.state.specs.PositionLaws.{advanced-by}
use Rattle.state.proofs.advance.Goals as goal

pub returns : goal.returns
returns c = let a = c.args in
    advanced-by a.block.now c.get32-position.ensures refl
    c.put32.ensures.0 c.put32.ensures.1
