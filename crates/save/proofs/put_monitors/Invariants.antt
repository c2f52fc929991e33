use Prim.Native.Nat.{◌+◌, ◌-◌, ◌≤◌}
use mathlib.Core.Path.{◌≡◌}
use lib.ListN.{length}
use Rattle.laws.specs.Put.{put}
use Rattle.save.specs.Text.{monitors_text}
use Rattle.model.specs.Layout.{most_monitors}
use Rattle.save.proofs.put_monitors.Given as goal

abbrev pub invariant-loop-h : goal.invariant-loop-h
invariant-loop-h l =
    (l.h ≤ most_monitors) × (length l.out ≡ length l.initial.out) × (l.next ≡ l.at + length (monitors_text l.s l.h))
    × (l.out ≡ put l.initial.out l.at (monitors_text l.s l.h))

abbrev pub decreases-loop-h : goal.decreases-loop-h
decreases-loop-h l =
    most_monitors - l.h
