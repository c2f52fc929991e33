use Prim.Native.Nat.{◌-◌, ◌≤◌}
use mathlib.Core.Path.{◌≡◌}
use lib.ListN.{length, take}
use Rattle.ticks.specs.Table.{column_by, filter_in}
use Rattle.model.specs.Layout.{most_monitors}
use Rattle.ticks.proofs.columns.filters_of.Given as goal

abbrev pub invariant-loop-h : goal.invariant-loop-h
invariant-loop-h l =
    (l.h ≤ most_monitors) × (length l.r ≡ most_monitors) × (take l.h l.r ≡ column_by (filter_in l.s l.filter) l.h)

abbrev pub decreases-loop-h : goal.decreases-loop-h
decreases-loop-h l =
    most_monitors - l.h
