use Prim.Native.Nat.{◌<◌}
use Rattle.sessions_run.proofs.number.Given as goal

abbrev pub invariant-loop-c : goal.invariant-loop-c
invariant-loop-c l = l.n < 1000000
