use mathlib.Core.Path.{◌≡◌, sym}
use native.Mathlib.Omega.{arith}
use lib.ListN.{length}
use lib.Seq.{length-take-le}
use borrow.Author.Rules.{rules}
use Rattle.shown.proofs.of_read.Goals as goal

pub slice_bounds-of_octets-end : goal.slice_bounds-of_octets-end
slice_bounds-of_octets-end c = let l : length c.args.read ≡ 263 = search rules in
    sym (length-take-le _ _ (omega (arith, l)))

pub returns : goal.returns
returns c = c.of_octets.ensures
