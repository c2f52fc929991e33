use Rattle.twin.specs.TurningTurns.{start-framed, start-stands}
use Rattle.std.proofs.Common.{arith}
use Rattle.twin.proofs.answers.put_stop.Goals as goal

pub overflow_sub-from : goal.overflow_sub-from
overflow_sub-from c = omega (arith, c.requires.1.packet, c.from.ensures)

pub payload_at-p-requires : goal.payload_at-p-requires
payload_at-p-requires c = start-stands c.args.t.now _ _ _ c.requires.1 c.from.ensures

pub put_event-requires : goal.put_event-requires
put_event-requires c = (
  c.requires.0,
  start-framed c.args.t.now _ _ _ _ c.requires.1 c.from.ensures c.payload_at-p.ensures,
  c.requires.2,
)

pub returns : goal.returns
returns c = rw (← c.from.ensures, ← c.payload_at-p.ensures) c.put_event.ensures
