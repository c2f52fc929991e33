use Rattle.ticks.specs.Table.{column_of}
use lib.ListN.{length, take}
use Prim.Native.Nat.{◌≤◌, ◌-◌}
use mathlib.Core.Path.{◌≡◌}
use Rattle.model.specs.Layout.{most_monitors}
use Rattle.ticks.proofs.columns.column.Given as goal

abbrev pub invariant-loop-h : goal.invariant-loop-h
invariant-loop-h l =
    (l.h ≤ most_monitors) × (length l.r ≡ most_monitors) × (take l.h l.r ≡ column_of l.s l.at l.h)

abbrev pub decreases-loop-h : goal.decreases-loop-h
decreases-loop-h l =
    most_monitors - l.h
