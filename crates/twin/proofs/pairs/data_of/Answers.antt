use Rattle.std.proofs.Common.{arith}
use Rattle.twin.specs.FiltersLaws.{data-read, sent-framed, sent-long}
use Rattle.twin.proofs.pairs.data_of.Goals as goal

pub bounds-p-8 : goal.bounds-p-8
bounds-p-8 c = let k = sent-long c.args.t.now c.args.r _
    c.requires c.payload_at-p.ensures in
    omega (arith, k)

pub slice_bounds-result-end : goal.slice_bounds-result-end
slice_bounds-result-end c = let k = sent-framed c.args.t.now
    c.args.r _ c.requires
    c.payload_at-p.ensures in
    let e = c.wide-end.ensures.0 in
    omega (arith, k.0, e)

pub returns : goal.returns
returns c = data-read c.args.t.now
    c.args.r _ _ c.payload_at-p.ensures
    c.wide-end.ensures.0
