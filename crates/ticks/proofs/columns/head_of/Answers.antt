use Rattle.ticks.specs.TableLaws.{copy-whole}
use mathlib.Core.Path.{◌≡◌}
use lib.Seq.{length-take-le}
use lib.ListN.{length, take}
use native.Mathlib.Omega.{arith}
use Rattle.model.specs.Layout.{head_size}
use Rattle.ticks.proofs.columns.head_of.Goals as goal

pub returns : goal.returns
returns c = let s = c.args.s.now in
    let n : length (take head_size s) ≡ head_size = length-take-le head_size s (omega arith) in
    copy-whole _ (take head_size s) n c.copy.ensures.0 c.copy.ensures.1
