use native.Mathlib.Omega.{arith}
use mathlib.Core.Path.{sym, ◌∙◌}
use Rattle.sheets.proofs.ReadingLaws.{minus-in, summed-below, summed-above, summed-back}
use Rattle.sheets.proofs.reads.sum_at.Goals as goal

pub count_at-n-requires : goal.count_at-n-requires
count_at-n-requires c = let h = minus-in c.args.text.now c.args.at
    (sym c.has_minus.ensures ∙ c.if-has_minus.true) in
    omega (arith, h)

pub returns-then-has_minus : goal.returns-then-has_minus
returns-then-has_minus c = let a = c.args in
    let e = sym c.has_minus.ensures ∙ c.if-has_minus.true in
    summed-back a.text.now a.at _ _
    (summed-below a.text.now a.at _ _ (minus-in a.text.now a.at e) e c.count_at-n.ensures
    c.below.ensures)

pub returns : goal.returns
returns c = let a = c.args in
    let e = sym c.has_minus.ensures ∙ c.if-has_minus.false in
    summed-back a.text.now a.at _ _
    (summed-above a.text.now a.at _ _ e c.count_at-n-2.ensures c.above.ensures)
