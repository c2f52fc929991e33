use Rattle.twin.specs.SilentLaws.{hears-sends}
use Rattle.twin.specs.GatheredLaws.{gather_none, gather-one}
use Rattle.twin.proofs.pairs.gathered.Goals as goal

pub returns-then-not-is_heard : goal.returns-then-not-is_heard
returns-then-not-is_heard c = gather_none c.args.t.now c.args.a
    c.args.k c.args.i
    c.args.w.packets c.args.w.sum
    c.args.w.last c.is_heard.ensures (c.if-not-is_heard.true)

pub rssi_at-requires : goal.rssi_at-requires
rssi_at-requires c = hears-sends c.args.t.now c.args.a
    c.args.k c.args.i
    c.requires.1 c.is_heard.ensures
    (c.if-not-is_heard.false)

pub returns : goal.returns
returns c = gather-one c.args.t.now c.args.a c.args.k c.args.i c.args.w.packets
    c.args.w.sum c.args.w.last _ _ _ c.is_heard.ensures
    (c.if-not-is_heard.false) c.rssi_at.ensures c.extended.ensures
    c.wrapping_add_u64.ensures.value
