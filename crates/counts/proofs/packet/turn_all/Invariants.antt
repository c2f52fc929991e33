use Prim.Native.Nat.{◌-◌, ◌≤◌}
use mathlib.Core.Path.{◌≡◌}
use lib.ListN.{length, take}
use mathlib.Core.List.{map}
use Rattle.totals.specs.Gains.{wide_row}
use Rattle.model.specs.Types.{Model}
use Rattle.model.specs.Frames.{packet_of, packet as packet_frame}
use Rattle.model.specs.Layout.{most_monitors}
use Rattle.counts.specs.Given.{Given}
use Rattle.packets.specs.Starts.{Holding}
use Rattle.months.specs.Counts.{row_in}
use Rattle.months.specs.Tables.{table_of}
use Rattle.counts.specs.Causes.{left_at}
use Rattle.counts.proofs.packet.turn_all.Given as goal

abbrev pub invariant-loop-h : goal.invariant-loop-h
invariant-loop-h l =
    (l.h ≤ most_monitors) × (length l.gains ≡ most_monitors)
    × ((m : Model) → Holding m l.s l.n → Given m.mons (packet_of l.payload) l.acts l.dev
    → l.room ≡ left_at m (packet_of l.payload) 0
    → (l.left ≡ left_at m (packet_of l.payload) l.h)
    × (take l.h (map wide_row l.gains) ≡ table_of (row_in m (packet_frame (packet_of l.payload))) l.h))

abbrev pub decreases-loop-h : goal.decreases-loop-h
decreases-loop-h l =
    most_monitors - l.h
