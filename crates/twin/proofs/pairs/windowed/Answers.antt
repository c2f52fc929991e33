use Rattle.std.proofs.Common.{arith}
use Rattle.twin.specs.FiltersLaws.{added-long, windowed-read}
use Rattle.twin.proofs.pairs.windowed.Goals as goal

pub bounds-params_of-4 : goal.bounds-params_of-4
bounds-params_of-4 c = let k = added-long c.args.t.now c.args.a _
    c.requires c.params_of.ensures in
    omega (arith, k)

pub returns : goal.returns
returns c = windowed-read c.args.t.now c.args.a _
    c.params_of.ensures
