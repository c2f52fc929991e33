use Prim.Native.Nat.{◌-◌, ◌≤◌}
use mathlib.Core.Path.{◌≡◌}
use Rattle.model.specs.Layout.{most_monitors}
use Rattle.save.specs.Text.{monitors_text}
use Rattle.save.specs.Passed.{passed}
use Rattle.save.proofs.passes.monitors.Given as goal

abbrev pub invariant-loop-h : goal.invariant-loop-h
invariant-loop-h l =
    (l.h ≤ most_monitors) × (l.at ≡ passed l.text 0 (monitors_text l.s l.h))

abbrev pub decreases-loop-h : goal.decreases-loop-h
decreases-loop-h l =
    most_monitors - l.h
