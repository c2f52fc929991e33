use Rattle.twin.specs.Seen.{Turns}
use Rattle.twin.specs.Table.{past_at, payload_at}
use Rattle.pasts.specs.Says.{turns_say}
use Rattle.model.specs.Layout.{turn_most}
use Rattle.model.specs.Frames.{packet_of}
use Rattle.packets.specs.Writes.{PutAt}
use Rattle.commands.specs.Replies.{prefix_in}
use Rattle.std.proofs.Common.{◌≡◌, ◌-◌, ◌*◌, ◌≤◌, length}
use Rattle.twin.proofs.answers.put_turns.Given as goal

abbrev pub invariant-loop-h : goal.invariant-loop-h
invariant-loop-h l =
    (l.h ≤ 16) × Turns l.t l.i l.h l.next × (l.at ≤ turn_most * l.h) × (length l.out ≡ length l.initial.out)
    × PutAt l.initial.out 0 (turns_say (prefix_in l.head) (past_at l.t l.i) (packet_of (payload_at l.t l.i)) l.h) l.out l.at
