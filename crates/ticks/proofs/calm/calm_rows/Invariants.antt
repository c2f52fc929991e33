use Prim.Native.Nat.{◌-◌, ◌≤◌}
use mathlib.Core.Path.{◌≡◌}
use lib.ListN.{length}
use Rattle.ticks.specs.Calm.{CalmOn}
use Rattle.ticks.proofs.calm.calm_rows.Given as goal

abbrev pub invariant-loop-i : goal.invariant-loop-i
invariant-loop-i l =
    (l.from ≤ l.i) × (l.i ≤ l.n) × (length l.t ≡ length l.initial.t) × CalmOn l.intervals l.periods l.initial.t l.t l.from l.from l.i

abbrev pub decreases-loop-i : goal.decreases-loop-i
decreases-loop-i l =
    l.n - l.i
