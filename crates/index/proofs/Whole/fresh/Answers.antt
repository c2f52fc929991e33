use mathlib.Core.Path.{◌∙◌}
use Prim.Native.Nat.{ℕ}
use lib.ListN.{replicate, length-replicate}
use Rattle.wholes.specs.Layout.{whole_size}
use Rattle.index.specs.BegunLaws.{begun-is}
use Rattle.index.proofs.Whole.fresh.Goals as goal

pub returns : goal.returns
returns c = let w = c.put_fresh-answer.ensures in
    (w.0, w.1 ∙ begun-is (replicate whole_size 0) _ _ (length-replicate {A = ℕ} whole_size 0))
