use Rattle.sheets.proofs.WritingLaws.{again-low}
use Rattle.std.proofs.Common.{◌-◌, sym, length-take-le}
use Rattle.monthly.proofs.rows.put_text.Goals as goal

pub slice_bounds-text-end : goal.slice_bounds-text-end
slice_bounds-text-end c = again-low _ _ c.write-n.ensures

pub slice_bounds-put-end : goal.slice_bounds-put-end
slice_bounds-put-end c = sym (length-take-le _ _ (again-low _ _ c.write-n.ensures))
