use Rattle.advert.proofs.EitherLaws.{none-second, none_first}
use Rattle.advert.proofs.lookup.has_more.Goals as goal

pub returns-then-second : goal.returns-then-second
returns-then-second c = none-second _ _ _ c.if-second.true

pub returns : goal.returns
returns c = none_first _ _ _ c.if-second.false
