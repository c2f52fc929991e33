use Rattle.sheets.proofs.ReadingLaws.{lined, summed-back}
use Rattle.sheets.proofs.reads.line_at.Goals as goal

pub returns : goal.returns
returns c = let a = c.args in
    lined a.text.now a.at _ _ _ _ _ _ _ _ _ _ c.count_at-handle.ensures
    c.count_at-packets.ensures c.count_at-reports.ensures c.count_at-ticks.ensures
    (summed-back a.text.now _ _ _ c.sum_at-sum.ensures)
