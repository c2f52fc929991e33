use Prim.Native.Nat.{◌-◌, ◌≤◌}
use mathlib.Core.Path.{◌≡◌}
use Rattle.fields.specs.CutsLaws.{Left}
use Rattle.fields.specs.Monitors.{patterns_text}
use lib.ListN.{length}
use Rattle.fields.proofs.monitors.patterns.Given as goal

abbrev pub invariant-loop-i : goal.invariant-loop-i
invariant-loop-i l =
    (l.n ≡ length l.s) × (l.i ≤ l.n) × Left (patterns_text) l.s l.i l.initial.out l.initial.end l.out l.end

abbrev pub decreases-loop-i : goal.decreases-loop-i
decreases-loop-i l =
    l.n - l.i
