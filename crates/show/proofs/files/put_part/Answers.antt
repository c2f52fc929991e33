use Rattle.std.proofs.Common.{sym, arith, length-take-le}
use Rattle.show.proofs.files.put_part.Goals as goal

pub slice_bounds-put-end : goal.slice_bounds-put-end
slice_bounds-put-end c = sym (length-take-le _ _ (omega arith))
