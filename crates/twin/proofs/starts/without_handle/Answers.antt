use Rattle.std.proofs.Common.{rules}
use Rattle.twin.specs.Seen.{of_other}
use Rattle.twin.proofs.starts.without_handle.Goals as goal

pub returns : goal.returns
unfolding of_other
returns c = c.only.ensures (of_other c.args.h) (λ b o p. search rules)
