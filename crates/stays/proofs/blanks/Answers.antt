use mathlib.Core.Path.{sym}
use native.Mathlib.Omega.{arith}
use lib.Seq.{length-take-le}
use Rattle.stays.specs.Rows.{blanks_of}
use Rattle.stays.proofs.blanks.Goals as goal

pub slice_bounds-with-end : goal.slice_bounds-with-end
slice_bounds-with-end c = sym (length-take-le _ _ (omega arith))

pub returns : goal.returns
unfolding blanks_of
returns c = c.with.ensures
