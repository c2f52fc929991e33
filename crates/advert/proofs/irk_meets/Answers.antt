use Rattle.advert.specs.IrkLaws.{irk-public, irk-random}
use Rattle.advert.proofs.irk_meets.Goals as goal

pub returns-then-address_type-ne1 : goal.returns-then-address_type-ne1
returns-then-address_type-ne1 c = irk-public _ _ _ c.if-address_type-ne1.true

pub returns : goal.returns
returns c = irk-random _ _ _ c.if-address_type-ne1.false c.resolves.ensures
