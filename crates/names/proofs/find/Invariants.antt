use Prim.Native.Nat.{◌-◌, ◌≤◌}
use mathlib.Core.Path.{◌≡◌}
use Rattle.names.specs.Names.{name_in}
use lib.ListN.{length, drop}
use Rattle.names.proofs.find.Given as goal

abbrev pub invariant-loop-i : goal.invariant-loop-i
invariant-loop-i l =
    (l.n ≡ length l.table) × (l.i ≤ l.n) × (name_in (drop l.i l.table) l.x ≡ name_in l.table l.x)

abbrev pub decreases-loop-i : goal.decreases-loop-i
decreases-loop-i l =
    l.n - l.i
