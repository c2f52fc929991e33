use Rattle.std.proofs.Common.{arith}
use Rattle.twin.specs.FiltersLaws.{added-long, run-read}
use Rattle.twin.proofs.pairs.run_of.Goals as goal

pub bounds-params_of-3 : goal.bounds-params_of-3
bounds-params_of-3 c = let k = added-long c.args.t.now c.args.a _
    c.requires c.params_of.ensures in
    omega (arith, k)

pub overflow_cast-result : goal.overflow_cast-result
overflow_cast-result c = omega (arith, c.shared_slice_known-2-1.given 3)

pub overflow_mul-result : goal.overflow_mul-result
overflow_mul-result c = omega (arith, c.shared_slice_known-2-1.given 3)

pub returns : goal.returns
returns c = run-read c.args.t.now c.args.a _
    c.params_of.ensures
