use Prim.Native.Nat.{◌-◌}
use Rattle.prefixes.specs.ForceLaws.{Rest}
use Rattle.prefixes.proofs.starts.Given as goal

abbrev pub invariant-loop-i : goal.invariant-loop-i
invariant-loop-i l =
    Rest l.n l.s l.i

abbrev pub decreases-loop-i : goal.decreases-loop-i
decreases-loop-i l =
    l.count - l.i
