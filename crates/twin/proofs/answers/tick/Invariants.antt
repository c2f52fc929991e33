use Rattle.twin.specs.Seen.{start_at}
use Rattle.twin.specs.Table.{past_at}
use Rattle.twin.specs.declared.watch.Begun.{Begun}
use Rattle.pasts.specs.Says.{tick_says_of}
use Rattle.model.specs.Layout.{report_most}
use Rattle.packets.specs.Writes.{PutAt}
use Rattle.commands.specs.Replies.{prefix_in}
use Rattle.laws.specs.Loops.{each}
use Rattle.std.proofs.Common.{◌≡◌, ◌*◌, ◌≤◌, length, take}
use Rattle.twin.proofs.answers.tick.Given as goal

abbrev pub invariant-loop-b : goal.invariant-loop-b
invariant-loop-b l =
    (l.at ≤ report_most * l.b-index) × (length l.out ≡ length l.initial.out)
    × PutAt l.initial.out 0 (each (λ (b : Begun). tick_says_of (prefix_in l.head) (past_at l.t l.i) (start_at l.t b))
    (take l.b-index l.b-items)) l.out l.at
