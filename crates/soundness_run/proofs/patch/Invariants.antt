use Rattle.std.proofs.Common.{◌≡◌, ℕ, length}
use Rattle.soundness_run.proofs.patch.Given as goal

abbrev pub invariant-loop-rest : goal.invariant-loop-rest
invariant-loop-rest l = length l.block ≡ length l.initial.block

abbrev pub decreases-loop-rest : goal.decreases-loop-rest
decreases-loop-rest l = length l.rest
