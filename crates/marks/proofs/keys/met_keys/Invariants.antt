use Rattle.marks.specs.Asked.{asked_of}
use Prim.Native.Nat.{◌-◌, ◌≤◌}
use mathlib.Core.Path.{◌≡◌}
use lib.ListN.{length}
use Rattle.model.specs.Layout.{most_monitors}
use Rattle.marks.specs.Keyed.{Keyed}
use Rattle.marks.proofs.keys.met_keys.Given as goal

abbrev pub invariant-loop-h : goal.invariant-loop-h
invariant-loop-h l =
    (l.h ≤ most_monitors) × (length l.met ≡ most_monitors) × Keyed l.met l.s (asked_of l.held l.s l.reach) l.payload l.h

abbrev pub decreases-loop-h : goal.decreases-loop-h
decreases-loop-h l =
    most_monitors - l.h
