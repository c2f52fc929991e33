use Prim.Native.Nat.{◌+◌, ◌-◌}
use mathlib.Core.Path.{◌≡◌}
use native.Mathlib.Omega.{arith}
use Rattle.words.specs.SaysLaws.{then, taken, left}
use Rattle.words.specs.Pieces.{sum_text}
use Rattle.model.specs.Quoted.{codes}
use borrow.Author.Tests.{lt-ltb, le-ltb}
use Rattle.words.proofs.sum.Goals as goal

pub returns-then-v-lt-NEGATIVE : goal.returns-then-v-lt-NEGATIVE
unfolding sum_text codes
returns-then-v-lt-NEGATIVE c = then c.put-a.ensures
    (taken _ _ (lt-ltb _ _ c.if-v-lt-NEGATIVE.true) c.said.ensures)

pub returns : goal.returns
unfolding sum_text codes
returns c = let e : 18446744073709551615 - c.args.v + 1 ≡ 18446744073709551616 - c.args.v = omega arith in
    then c.put-a.ensures (left _ _ (le-ltb _ _ c.if-v-lt-NEGATIVE.false) (rw e at c.said-2.ensures))
