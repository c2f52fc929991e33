use mathlib.Core.Path.{◌∙◌}
use Prim.Native.Nat.{ℕ}
use lib.ListN.{replicate, length-replicate}
use Rattle.wholes.specs.Layout.{whole_size}
use Rattle.index.specs.BegunLaws.{blank-is}
use Rattle.index.proofs.Whole.blank.Goals as goal

pub returns : goal.returns
returns c = c.put_blank.ensures ∙ blank-is (replicate whole_size 0) (length-replicate {A = ℕ} whole_size 0)
