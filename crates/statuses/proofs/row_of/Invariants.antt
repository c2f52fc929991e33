use Rattle.statuses.specs.LookupLaws.{Left}
use Prim.Native.Nat.{◌≤◌}
use Rattle.statuses.proofs.row_of.Given as goal

abbrev pub invariant-loop-r : goal.invariant-loop-r
invariant-loop-r l =
    (l.r-index ≤ 5) × Left l.r-index l.sub
