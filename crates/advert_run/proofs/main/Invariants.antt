use Rattle.std.proofs.Common.{ℕ, length}
use Rattle.advert_run.proofs.main.Given as goal

abbrev pub decreases-loop-end : goal.decreases-loop-end
decreases-loop-end l = length l.rest
