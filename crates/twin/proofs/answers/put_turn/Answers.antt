use Rattle.commands.specs.Replies.{prefix_in}
use Rattle.twin.specs.MarksLaws.{packet-framed-at}
use Rattle.twin.specs.Seen.{begun_at}
use Rattle.twin.specs.TurningTurns.{turn-still, turn-joins, turn-moves, gone-start, gone-within}
use Rattle.std.proofs.Common.{arith}
use Rattle.twin.proofs.answers.put_turn.Goals as goal

pub returns-in-Still : goal.returns-in-Still
returns-in-Still c = turn-still (prefix_in c.args.head.now) c.args.t.now c.args.i c.args.h c.args.seen
    c.args.turned c.requires.4 c.args.out.now c.args.at c.in-Still.is

pub put_event-requires : goal.put_event-requires
put_event-requires c = (
  c.requires.0,
  packet-framed-at c.args.t.now c.args.i _ c.requires.1 c.payload_at.ensures,
  omega (arith, c.requires.5),
)

pub returns-in-Joined : goal.returns-in-Joined
returns-in-Joined c = turn-joins (prefix_in c.args.head.now) c.args.t.now c.args.i c.args.h c.args.seen
    c.args.turned c.requires.4 c.in-Joined.is c.payload_at.ensures c.put_event.ensures

pub bounds-seen-gone : goal.bounds-seen-gone
bounds-seen-gone c = gone-within (prefix_in c.args.head.now) c.args.t.now c.args.i c.args.h c.args.seen
    c.args.turned c.requires.4 c.in-Displaced.gone c.requires.3 c.in-Displaced.is

pub put_stop-n-requires : goal.put_stop-n-requires
unfolding begun_at
put_stop-n-requires c = (
  c.requires.0,
  gone-start (prefix_in c.args.head.now) c.args.t.now c.args.i c.args.h
      c.args.seen c.args.turned c.requires.4 c.in-Displaced.gone c.requires.3 c.in-Displaced.is,
  omega (arith, c.requires.5),
)

pub put_event-requires-in-Displaced : goal.put_event-requires-in-Displaced
put_event-requires-in-Displaced c = (
  c.requires.0,
  packet-framed-at c.args.t.now c.args.i _ c.requires.1 c.payload_at-in-Displaced.ensures,
  omega (
    arith,
    c.requires.5,
    c.put_stop-n.ensures.0,
    c.put_stop-n.auto.out,
  ),
)

pub returns-in-Displaced : goal.returns-in-Displaced
unfolding begun_at
returns-in-Displaced c = turn-moves (prefix_in c.args.head.now) c.args.t.now c.args.i c.args.h
    c.args.seen c.args.turned c.requires.4 c.in-Displaced.gone c.in-Displaced.is c.requires.5
    c.payload_at-in-Displaced.ensures c.put_stop-n.ensures c.put_event-in-Displaced.ensures
