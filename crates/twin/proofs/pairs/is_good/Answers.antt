use Rattle.twin.specs.SilentLaws.{good_none, adds-long, hears-sends, good-asked}
use Rattle.twin.proofs.pairs.is_good.Goals as goal

pub returns-then-not-is_heard : goal.returns-then-not-is_heard
returns-then-not-is_heard c = good_none c.args.t.now c.args.a
    c.args.k c.args.i c.is_heard.ensures
    (c.if-not-is_heard.true)

pub bounds-low-2 : goal.bounds-low-2
bounds-low-2 c = adds-long c.args.t.now
    c.args.a c.args.k _
    c.requires.0 c.params_of-low.ensures

pub rssi_at-requires : goal.rssi_at-requires
rssi_at-requires c = hears-sends c.args.t.now c.args.a c.args.k c.args.i c.requires.1
    c.is_heard.ensures (c.if-not-is_heard.false)

pub returns : goal.returns
returns c = good-asked c.args.t.now c.args.a c.args.k c.args.i _ _ _
    c.is_heard.ensures (c.if-not-is_heard.false) c.params_of-low.ensures
    c.level_of.ensures c.rssi_at.ensures c.level_of-2.ensures
