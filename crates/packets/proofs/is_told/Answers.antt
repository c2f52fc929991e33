use Rattle.std.proofs.Common.{refl}
use Rattle.packets.specs.WholeLaws.{told-off, told-on}
use Rattle.packets.proofs.is_told.Goals as goal

pub returns-then-s-eq0 : goal.returns-then-s-eq0
returns-then-s-eq0 c = let a = c.args in λ m p k w u v. told-off m p w c.if-s-eq0.true

pub returns : goal.returns
returns c = let a = c.args in λ m p k w u v. told-on m p w c.if-s-eq0.false u v refl
