use Rattle.twin.specs.MonitorRowsLaws.{added-put, type-at-range}
use Rattle.std.proofs.Common.{arith}
use Rattle.twin.proofs.image.put_added.Goals as goal

pub slice_bounds-copy-count : goal.slice_bounds-copy-count
slice_bounds-copy-count c = let g = type-at-range c.args.params.now c.type_at-at.result
    c.requires.1 c.type_at-at.ensures in
    omega (arith, g.0)

pub slice_bounds-copy-start : goal.slice_bounds-copy-start
slice_bounds-copy-start c = let g = type-at-range c.args.params.now c.type_at-at.result
    c.requires.1 c.type_at-at.ensures in
    omega (arith, g.0)

pub slice_bounds-copy-end : goal.slice_bounds-copy-end
slice_bounds-copy-end c = let g = type-at-range c.args.params.now c.type_at-at.result
    c.requires.1 c.type_at-at.ensures in
    omega (arith, g.2)

pub returns : goal.returns
returns c = added-put c.args.row.now c.args.params.now c.type_at-at.result c.requires.0
    c.requires.1 c.type_at-at.ensures c.copy.ensures
