use Prim.Native.Nat.{◌-◌, ◌≤◌}
use mathlib.Core.Path.{◌≡◌}
use mathlib.Core.List.{[], ◌∷◌}
use lib.ListN.{length, get_or, drop}
use Rattle.laws.specs.Loops.{up_to}
use Rattle.laws.specs.Rows.{row}
use Rattle.laws.specs.Put.{put}
use Rattle.model.specs.Frames.{packet_of}
use Rattle.model.specs.Layout.{monitor_size, monitors_at, most_monitors}
use Rattle.marks.specs.Monitors.{met_mark}
use Rattle.marks.specs.Asked.{asked_of, mark_if}
use Rattle.marks.proofs.mark_each.Given as goal

abbrev pub invariant-loop-h : goal.invariant-loop-h
invariant-loop-h l =
    (l.h ≤ most_monitors) × (length l.acts ≡ length l.initial.acts)
    × (l.acts ≡ put l.initial.acts 0
    (up_to (λ g. mark_if (get_or (asked_of l.held l.s l.reach) g 0)
    (met_mark (row monitor_size g (drop monitors_at l.s)) (packet_of l.payload)) ∷ []) l.h))

abbrev pub decreases-loop-h : goal.decreases-loop-h
decreases-loop-h l =
    most_monitors - l.h
