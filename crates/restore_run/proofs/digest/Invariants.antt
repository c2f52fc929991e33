use Rattle.std.proofs.Common.{ℕ, ◌<◌}
use Rattle.restore_run.proofs.digest.Given as goal

abbrev pub invariant-loop-x : goal.invariant-loop-x
invariant-loop-x l = l.d < 1000003
