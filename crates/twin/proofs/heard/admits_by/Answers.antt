use Rattle.twin.specs.HeardLaws.{admits-any, admits-peer, admits-key}
use Rattle.twin.proofs.heard.admits_by.Goals as goal

pub returns-then-extra-eq1 : goal.returns-then-extra-eq1
returns-then-extra-eq1 c = admits-any c.args.extra.now
    c.args.payload.now c.if-extra-eq1.true

pub returns-then-is_peer : goal.returns-then-is_peer
returns-then-is_peer c = admits-peer c.args.extra.now c.args.payload.now c.if-extra-eq1.false
    c.is_peer.ensures c.if-is_peer.true

pub returns : goal.returns
returns c = admits-key c.args.extra.now c.args.payload.now c.if-extra-eq1.false
    c.is_peer.ensures c.if-is_peer.false c.is_owner.ensures
