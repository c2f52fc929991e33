use Rattle.std.proofs.Common.{◌≡◌, ◌+◌, ◌-◌, length, get_or, set, ◌∙◌, arith, length-set}
use Rattle.twin.specs.MonitorRowsLaws.{condition-short, settings-put, type-at-range}
use Rattle.twin.proofs.image.put_settings.Goals as goal

pub overflow_add-from : goal.overflow_add-from
overflow_add-from c = let g = type-at-range c.args.params.now c.type_at-at.result
    c.requires.1 c.type_at-at.ensures in
    omega (arith, g.1)

pub slice_bounds-copy-end : goal.slice_bounds-copy-end
slice_bounds-copy-end c = let g = type-at-range c.args.params.now c.type_at-at.result
    c.requires.1 c.type_at-at.ensures in
    omega (arith, g.0, g.2)

pub bounds-params-at : goal.bounds-params-at
bounds-params-at c = let g = type-at-range c.args.params.now c.type_at-at.result c.requires.1
    c.type_at-at.ensures in
    omega (arith, g.2)

pub bounds-row-5 : goal.bounds-row-5
bounds-row-5 c = let e : length c.copy.new.out ≡ length c.args.row.now = c.copy.auto.out
    ∙ length-set c.args.row.now 0 c.args.h in
    omega (arith, e, c.requires.0)

pub overflow_sub-row : goal.overflow_sub-row
overflow_sub-row c = let g = type-at-range c.args.params.now c.type_at-at.result c.requires.1
    c.type_at-at.ensures in
    omega (arith, g.2)

pub overflow_cast-row : goal.overflow_cast-row
overflow_cast-row c = let q = condition-short c.args.params.now c.type_at-at.result c.requires.2
    c.type_at-at.ensures in
    omega (arith, q)

pub bounds-row-6 : goal.bounds-row-6
bounds-row-6 c = let e : length c.copy.new.out ≡ length c.args.row.now = c.copy.auto.out
    ∙ length-set c.args.row.now 0 c.args.h in
    simp length-set (omega (arith, e, c.requires.0))

pub slice_bounds-copy-count-2 : goal.slice_bounds-copy-count-2
slice_bounds-copy-count-2 c = let g = type-at-range c.args.params.now c.type_at-at.result c.requires.1
    c.type_at-at.ensures in
    omega (arith, g.2)

pub slice_bounds-copy-start-2 : goal.slice_bounds-copy-start-2
slice_bounds-copy-start-2 c = let g = type-at-range c.args.params.now c.type_at-at.result c.requires.1
    c.type_at-at.ensures in
    omega (arith, g.2)

pub shape_of-row : goal.shape_of-row
shape_of-row c = let e : length c.copy.new.out ≡ length c.args.row.now = c.copy.auto.out
    ∙ length-set c.args.row.now 0 c.args.h in
    let j : length (set (set c.copy.new.out 5
    (get_or c.args.params.now c.type_at-at.result 0)) 6
    (length c.args.params.now - (c.type_at-at.result + 1))) ≡ length
    c.copy.new.out = simp length-set in
    c.copy-2.auto.out ∙ j ∙ e

pub returns : goal.returns
returns c = settings-put c.args.row.now c.args.params.now c.args.h c.type_at-at.result
    c.requires.0 c.requires.1 c.type_at-at.ensures c.requires.2 c.copy.ensures
    c.copy-2.ensures
