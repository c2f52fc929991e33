use mathlib.Core.Bool.{true}
use Rattle.soundness.specs.Clauses.{monitor_test, monitor_row_at}
use Rattle.soundness.specs.Below.{all_below}
use Prim.Native.Nat.{◌-◌, ◌≤◌}
use mathlib.Core.Path.{◌≡◌}
use Rattle.model.specs.Layout.{most_monitors}
use Rattle.soundness.proofs.monitors_sound.Given as goal

abbrev pub invariant-loop-h : goal.invariant-loop-h
invariant-loop-h l =
    (l.h ≤ most_monitors) × (all_below (λ k. monitor_test k (monitor_row_at l.s k)) l.h ≡ true)

abbrev pub decreases-loop-h : goal.decreases-loop-h
decreases-loop-h l =
    most_monitors - l.h
