use Rattle.std.proofs.Common.{refl}
use Rattle.visit.specs.BookLaws.{heard-some, heard-none}
use Rattle.visit.proofs.Visit.heard.Goals as goal

pub returns-then-self-device : goal.returns-then-self-device
returns-then-self-device c = heard-none c.args.device c.args.level c.args.self c.if-self-device.true

pub returns : goal.returns
returns c = heard-some c.args.device c.args.level c.args.self _ _ c.if-self-device.false refl refl
