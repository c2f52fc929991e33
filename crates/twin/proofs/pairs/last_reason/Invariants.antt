use Rattle.twin.specs.ReasonsLaws.{Reason}
use Rattle.std.proofs.Common.{◌-◌, ◌≤◌}
use Rattle.twin.proofs.pairs.last_reason.Given as goal

abbrev pub invariant-loop-i : goal.invariant-loop-i
invariant-loop-i l =
    (l.k ≤ l.i) × (l.i ≤ l.n) × Reason l.t l.a l.k l.i l.r
