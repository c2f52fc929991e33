use Rattle.twin.specs.MonitorRowsLaws.{names_at, turned-all, turned_more, turned_none}
use Rattle.std.proofs.Common.{◌-◌, arith, rules}
use Rattle.twin.proofs.image.put_monitors.Goals as goal

pub loop-h-init : goal.loop-h-init
loop-h-init c = turned_none c.args.t.now c.args.live.now
    c.args.b.now

pub overflow_cast-h : goal.overflow_cast-h
overflow_cast-h c = let l = c.loop-h-test.true in omega (arith, l)

pub bounds-live-h : goal.bounds-live-h
bounds-live-h c = let l = c.loop-h-test.true in omega (arith, l)

pub monitor_row-row-requires : goal.monitor_row-row-requires
monitor_row-row-requires c = names_at c.args.t.now c.args.live.now c.loop-h.h c.wide.result c.wide.ensures.0
    c.requires.1

pub overflow_mul-h : goal.overflow_mul-h
overflow_mul-h c = let l = c.loop-h-test.true in omega (arith, l)

pub overflow_add-h : goal.overflow_add-h
overflow_add-h c = let l = c.loop-h-test.true in omega (arith, l)

pub loop-h-preserved : goal.loop-h-preserved
loop-h-preserved c = turned_more c.args.t.now c.args.live.now c.args.b.now c.loop-h.h
    c.wide.result c.loop-h.b c.monitor_row-row.result c.requires.0
    (let l = c.loop-h-test.true in omega (arith, l)) c.loop-h.invariant c.wide.ensures.0
    c.monitor_row-row.ensures (search rules) c.copy.ensures

pub shape_of-b : goal.shape_of-b
shape_of-b c = c.loop-h.invariant.long

pub returns : goal.returns
returns c = turned-all c.args.t.now
    c.args.live.now c.args.b.now
    c.loop-h.h c.loop-h.b (let l = c.loop-h-test.false in omega (arith, l)) c.loop-h.invariant
