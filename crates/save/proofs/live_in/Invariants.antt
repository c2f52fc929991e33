use Prim.Native.Nat.{◌-◌, ◌≤◌}
use mathlib.Core.Path.{◌≡◌}
use lib.ListN.{length}
use Rattle.save.specs.Text.{live_below}
use Rattle.model.specs.Layout.{most_monitors}
use Rattle.save.proofs.live_in.Given as goal

abbrev pub invariant-loop-h : goal.invariant-loop-h
invariant-loop-h l =
    (l.h ≤ most_monitors) × (l.n ≤ l.h) × (l.n ≡ length (live_below l.s l.h))

abbrev pub decreases-loop-h : goal.decreases-loop-h
decreases-loop-h l =
    most_monitors - l.h
