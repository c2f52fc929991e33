use Rattle.twin.specs.TurningTurns.{packet-quiet, packet-told}
use Rattle.twin.specs.PassedLaws.{frames-less}
use Rattle.twin.specs.MarksLaws.{packet-framed-at}
use Rattle.packets.specs.AnswersTurns.{reports-read}
use Rattle.commands.specs.Replies.{prefix_in}
use Rattle.std.proofs.Common.{arith}
use Rattle.twin.proofs.answers.packet.Goals as goal

pub after_all-seen-requires : goal.after_all-seen-requires
after_all-seen-requires c = frames-less c.args.t.now _ c.args.i (omega arith)
    c.requires.1

pub returns-then-not-is_reported : goal.returns-then-not-is_reported
returns-then-not-is_reported c = packet-quiet (prefix_in c.args.head.now) c.args.t.now c.args.i
    c.put_turns-at.ensures.1 c.is_reported.ensures (c.if-not-is_reported.true)

pub returns : goal.returns
returns c = let put-turns = c.put_turns-at in
    let payload-at = c.payload_at in
    packet-told (prefix_in c.args.head.now) c.args.t.now c.args.i
    (omega (arith, c.requires.3, put-turns.ensures.0)) put-turns.ensures.1
    c.is_reported.ensures (c.if-not-is_reported.false) payload-at.ensures
    (reports-read _ _ _ (omega (
      arith,
      c.requires.3,
      put-turns.ensures.0,
      c.out-1.given,
    )) (packet-framed-at c.args.t.now c.args.i _ c.requires.2 payload-at.ensures)
    (c.put_packet.ensures.1, c.put_packet.ensures.2))
