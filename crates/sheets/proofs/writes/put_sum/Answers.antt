use native.Mathlib.Omega.{arith}
use lib.ListN.{length-set}
use mathlib.Core.Path.{◌∙◌}
use Rattle.sheets.proofs.SignsLaws.{below_true, size_back}
use Rattle.sheets.proofs.WritingLaws.{sum-minus, sum-plain}
use Rattle.sheets.proofs.writes.put_sum.Goals as goal

pub put_count-requires : goal.put_count-requires
put_count-requires c = let e = length-set c.args.out.now
    c.args.at 45 in
    omega (arith, e)

pub shape_of-out-then-sum-lt0 : goal.shape_of-out-then-sum-lt0
shape_of-out-then-sum-lt0 c = c.put_count.auto.out ∙ length-set c.args.out.now c.args.at 45

pub returns-then-sum-lt0 : goal.returns-then-sum-lt0
returns-then-sum-lt0 c = let a = c.args in
    sum-minus a.sum a.out.now a.at _ (below_true a.sum c.ranges.sum c.if-sum-lt0.true)
    (size_back a.sum c.ranges.sum c.size_of-n.ensures) (omega arith)
    c.put_count.ensures

pub returns : goal.returns
returns c = let a = c.args in
    sum-plain a.sum a.out.now a.at _ (below_true a.sum c.ranges.sum c.if-sum-lt0.false)
    (size_back a.sum c.ranges.sum c.size_of-n.ensures) c.put_count-2.ensures
