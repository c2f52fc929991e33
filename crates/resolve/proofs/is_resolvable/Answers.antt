use Rattle.resolve.specs.Laws.{by_size, by-top}
use Rattle.resolve.proofs.is_resolvable.Goals as goal

pub returns-then-address-ne-ADDRESS : goal.returns-then-address-ne-ADDRESS
returns-then-address-ne-ADDRESS c = by_size _ c.if-address-ne-ADDRESS.true

pub returns : goal.returns
returns c = by-top _ c.if-address-ne-ADDRESS.false
