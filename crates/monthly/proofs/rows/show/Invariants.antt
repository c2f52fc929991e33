use Rattle.std.proofs.Common.{◌-◌, ◌≤◌}
use Rattle.monthly.proofs.rows.show.Given as goal

abbrev pub invariant-loop-h : goal.invariant-loop-h
invariant-loop-h l =
    l.h ≤ 16

abbrev pub decreases-loop-h : goal.decreases-loop-h
decreases-loop-h l =
    16 - l.h
