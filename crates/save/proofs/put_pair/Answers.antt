use Rattle.save.specs.StepsTurns.{pair_put}
use lib.ListN.{length-take}
use native.Mathlib.Omega.{arith}
use Rattle.save.proofs.put_pair.Goals as goal

pub slice_bounds-put_line-end : goal.slice_bounds-put_line-end
slice_bounds-put_line-end c = simp length-take (omega (arith, c.at_most-n.ensures.1))

pub put_line-requires : goal.put_line-requires
put_line-requires c = simp length-take (omega (arith, c.at_most-n.ensures.1))

pub returns : goal.returns
returns c = pair_put _ _ _ c.at_most-n.ensures.0
    c.put_line.ensures
