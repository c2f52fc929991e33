use Prim.Native.Nat.{◌-◌}
use Rattle.prefixes.specs.ForceLaws.{Left}
use Rattle.prefixes.proofs.in_force.Given as goal

abbrev pub invariant-loop-k : goal.invariant-loop-k
invariant-loop-k l =
    Left l.s l.n l.k

abbrev pub decreases-loop-k : goal.decreases-loop-k
decreases-loop-k l =
    l.k
