use mathlib.Core.Path.{ap}
use mathlib.Core.Bool.{Bool, ◌&&◌}
use lib.Dec.{eqb}
use lib.ListN.{get_or}
use Rattle.marks.specs.Keyed.{private_of}
use Rattle.marks.proofs.is_private.Goals as goal

pub returns : goal.returns
unfolding private_of
returns c = ap (λ (b : Bool). eqb (get_or c.args.payload.now 1 0) 1 && b)
    c.is_resolvable.ensures
