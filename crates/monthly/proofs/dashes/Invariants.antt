use Rattle.std.proofs.Common.{◌-◌, ◌≤◌}
use Rattle.monthly.proofs.dashes.Given as goal

abbrev pub invariant-loop-at : goal.invariant-loop-at
invariant-loop-at l =
    0 ≤ l.at

abbrev pub decreases-loop-at : goal.decreases-loop-at
decreases-loop-at l =
    l.words - l.at
