use Rattle.std.proofs.Common.{sym}
use Rattle.advert.proofs.EitherLaws.{text-second, text-first}
use Rattle.advert.proofs.lookup.text_of.Goals as goal

pub returns-then-second : goal.returns-then-second
returns-then-second c = sym (text-second _ _ c.if-second.true)

pub returns : goal.returns
returns c = sym (text-first _ _ c.if-second.false)
