use Rattle.twin.specs.TickingLaws.{watches-looks, tick-bare, tick-closes, tick-ends, tick-off, tick-plain, tick-within}
use Rattle.twin.specs.MarksLaws.{added-at, looks-at}
use Rattle.twin.specs.SilentLaws.{typed-tick}
use Rattle.commands.specs.Replies.{prefix_in}
use Rattle.std.proofs.Common.{refl, arith}
use Rattle.twin.proofs.answers.put_tick.Goals as goal

pub goes_on-requires : goal.goes_on-requires
goes_on-requires c = (watches-looks c.args.t.now c.args.i _ c.args.b c.requires.1 refl c.requires.3).0

pub put_stop-requires : goal.put_stop-requires
put_stop-requires c = (
  c.requires.0,
  (watches-looks c.args.t.now c.args.i _ c.args.b c.requires.1 refl c.requires.3).1.start,
  omega (arith, c.requires.5),
)

pub returns-then-not-goes_on : goal.returns-then-not-goes_on
returns-then-not-goes_on c = tick-ends (prefix_in c.args.head.now) c.args.t.now c.args.i c.args.b
    (typed-tick c.args.t.now c.args.i (c.requires.1.formed c.args.i (omega arith)) c.requires.2)
    (watches-looks c.args.t.now c.args.i _ c.args.b c.requires.1 refl c.requires.3).1.order
    c.goes_on.ensures (c.if-not-goes_on.true) c.put_stop.ensures

pub returns-then-filter-ne1 : goal.returns-then-filter-ne1
returns-then-filter-ne1 c = tick-off (prefix_in c.args.head.now) c.args.t.now c.args.i c.args.b
    (typed-tick c.args.t.now c.args.i (c.requires.1.formed c.args.i (omega arith)) c.requires.2)
    (watches-looks c.args.t.now c.args.i _ c.args.b c.requires.1 refl c.requires.3).1.order
    c.goes_on.ensures (c.if-not-goes_on.false)
    c.args.filter c.requires.4 c.if-filter-ne1.true c.args.out.now c.args.at

pub windowed-requires : goal.windowed-requires
windowed-requires c = added-at c.args.t.now _ _ c.args.b c.from-a.ensures
    (watches-looks c.args.t.now c.args.i _ c.args.b c.requires.1 refl c.requires.3).1

pub returns-then-not-windowed : goal.returns-then-not-windowed
returns-then-not-windowed c = tick-bare (prefix_in c.args.head.now) c.args.t.now c.args.i c.args.b
    (typed-tick c.args.t.now c.args.i (c.requires.1.formed c.args.i (omega arith)) c.requires.2)
    (watches-looks c.args.t.now c.args.i _ c.args.b c.requires.1 refl c.requires.3).1.order
    c.goes_on.ensures (c.if-not-goes_on.false) c.from-a.result
    c.from-a.ensures c.windowed.ensures (c.if-not-windowed.true) c.args.out.now c.args.at

pub phase-requires : goal.phase-requires
phase-requires c = looks-at c.args.t.now _ _ _ c.args.b c.from-a.ensures c.from-k.ensures
    (watches-looks c.args.t.now c.args.i _ c.args.b c.requires.1 refl c.requires.3).0

pub returns-then-phase-ne0 : goal.returns-then-phase-ne0
returns-then-phase-ne0 c = tick-within (prefix_in c.args.head.now) c.args.t.now c.args.i c.args.b
    (typed-tick c.args.t.now c.args.i (c.requires.1.formed c.args.i (omega arith)) c.requires.2)
    (watches-looks c.args.t.now c.args.i _ c.args.b c.requires.1 refl c.requires.3).1.order
    c.goes_on.ensures (c.if-not-goes_on.false) c.from-a.result
    c.from-k.result c.phase.result c.from-a.ensures c.from-k.ensures
    c.windowed.ensures (c.if-not-windowed.false) c.phase.ensures.0
    c.if-phase-ne0.true c.args.out.now c.args.at

pub put_window-requires : goal.put_window-requires
put_window-requires c =
    let looks = (watches-looks c.args.t.now c.args.i _ c.args.b c.requires.1 refl c.requires.3) in (
      looks-at c.args.t.now _ _ _ c.args.b c.from-a.ensures c.from-k.ensures looks.1,
      tick-plain (prefix_in c.args.head.now) c.args.t.now c.args.i c.args.b
          (typed-tick c.args.t.now c.args.i (c.requires.1.formed c.args.i (omega arith)) c.requires.2)
          looks.1.order c.goes_on.ensures (c.if-not-goes_on.false) c.from-a.result
          c.from-k.result c.phase.result c.from-a.ensures c.from-k.ensures
          c.windowed.ensures (c.if-not-windowed.false)
          c.phase.ensures.0 c.requires.3.accepted,
      c.requires.5,
    )

pub returns : goal.returns
returns c = tick-closes (prefix_in c.args.head.now) c.args.t.now c.args.i c.args.b
    (typed-tick c.args.t.now c.args.i (c.requires.1.formed c.args.i (omega arith)) c.requires.2)
    (watches-looks c.args.t.now c.args.i _ c.args.b c.requires.1 refl c.requires.3).1.order
    c.goes_on.ensures (c.if-not-goes_on.false) c.from-a.result
    c.from-k.result c.phase.result c.from-a.ensures c.from-k.ensures c.windowed.ensures
    (c.if-not-windowed.false) c.phase.ensures.0 c.args.filter c.if-phase-ne0.false
    c.requires.4 c.if-filter-ne1.false c.put_window.ensures
