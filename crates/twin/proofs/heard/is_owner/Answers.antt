use Rattle.std.proofs.Common.{refl}
use Rattle.twin.specs.HeardLaws.{key-off, key-public, key-asked}
use Rattle.twin.proofs.heard.is_owner.Goals as goal

pub returns-then-extra-ne1 : goal.returns-then-extra-ne1
returns-then-extra-ne1 c = key-off c.args.extra.now
    c.args.payload.now c.if-extra-ne1.true

pub returns-then-payload-ne1 : goal.returns-then-payload-ne1
returns-then-payload-ne1 c = key-public c.args.extra.now c.args.payload.now c.if-payload-ne1.true

pub returns : goal.returns
returns c = key-asked c.args.extra.now c.args.payload.now c.if-extra-ne1.false c.if-payload-ne1.false refl refl
    c.resolves.ensures
