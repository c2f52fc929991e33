use Prim.Native.Nat.{◌-◌, ◌≤◌}
use mathlib.Core.Path.{◌≡◌}
use lib.ListN.{length, take}
use mathlib.Core.List.{map}
use Rattle.totals.specs.Gains.{wide_row}
use Rattle.model.specs.Types.{Model}
use Rattle.model.specs.Frames.{tick}
use Rattle.model.specs.Layout.{most_monitors}
use Rattle.packets.specs.Starts.{Holding}
use Rattle.months.specs.Counts.{row_in}
use Rattle.months.specs.Tables.{table_of}
use Rattle.counts.specs.Ticks.{Known}
use Rattle.counts.proofs.tick.gains_of.Given as goal

abbrev pub invariant-loop-h : goal.invariant-loop-h
invariant-loop-h l =
    (l.h ≤ most_monitors) × (length l.gains ≡ most_monitors)
    × ((m : Model) → Known m l.s → Holding m l.s l.n → take l.h (map wide_row l.gains) ≡ table_of (row_in m tick) l.h)

abbrev pub decreases-loop-h : goal.decreases-loop-h
decreases-loop-h l =
    most_monitors - l.h
