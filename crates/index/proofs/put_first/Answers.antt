use native.Mathlib.Omega.{arith}
use mathlib.Core.Path.{refl}
use Rattle.wholes.specs.Heads.{prefix_size}
use Rattle.index.specs.BegunLaws.{first-put}
use Rattle.index.proofs.put_first.Goals as goal

pub returns : goal.returns
returns c = let a = c.args in
    first-put a.s.now prefix_size (omega arith) refl c.copy.ensures.0 c.copy.ensures.1
    c.copy-2.ensures.0 c.copy-2.ensures.1
