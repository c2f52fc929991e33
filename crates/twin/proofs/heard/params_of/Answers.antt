use Rattle.std.proofs.Common.{◌-◌, length, ap, arith}
use Rattle.twin.specs.HearsLaws.{command-long, params-read}
use Rattle.twin.proofs.heard.params_of.Goals as goal

pub slice_bounds-result-count : goal.slice_bounds-result-count
slice_bounds-result-count c = let e = ap length c.payload_at-p.ensures in
    let k = command-long c.args.t.now (c.args.a - 1)
    c.requires.1 in
    omega (arith, e, k)

pub slice_bounds-result-start : goal.slice_bounds-result-start
slice_bounds-result-start c = let e = ap length c.payload_at-p.ensures in
    let k = command-long c.args.t.now (c.args.a - 1)
    c.requires.1 in
    omega (arith, e, k)

pub returns : goal.returns
returns c = params-read c.args.t.now (c.args.a - 1)
    c.payload_at-p.result.now c.payload_at-p.ensures
