use Rattle.commands.specs.CancelledLaws.{forgotten}
use native.Mathlib.Omega.{arith}
use mathlib.Core.Path.{◌∙◌}
use lib.ListN.{length-set}
use Rattle.commands.proofs.forget_pairs.Goals as goal

pub shape_of-s : goal.shape_of-s
shape_of-s c = simp length-set (c.s-2-1.given ∙ c.s-1.given)

pub returns : goal.returns
returns c = let p = c.at_most-count.ensures in
    forgotten c.args.h c.at_most-count.result c.args.s.now (omega arith) c.s-1.given
    c.s-2-1.given p.2 c.compact-k.ensures c.fill.ensures p.1
