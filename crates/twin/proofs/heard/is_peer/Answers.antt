use Rattle.std.proofs.Common.{refl}
use Rattle.twin.specs.HeardLaws.{peer-off, peer-other, peer-asked}
use Rattle.twin.proofs.heard.is_peer.Goals as goal

pub returns-then-extra-ne1 : goal.returns-then-extra-ne1
returns-then-extra-ne1 c = peer-off c.args.extra.now
    c.args.payload.now c.if-extra-ne1.true

pub returns-then-extra-payload : goal.returns-then-extra-payload
returns-then-extra-payload c = peer-other c.args.extra.now c.args.payload.now c.if-extra-payload.true

pub returns : goal.returns
returns c = peer-asked c.args.extra.now c.args.payload.now c.if-extra-ne1.false c.if-extra-payload.false refl refl
    c.same.ensures
