use native.Mathlib.Omega.{arith}
use Rattle.walks.specs.WalkLaws.{behind-none, behind-cut, behind-whole}
use Rattle.walks.proofs.behind.Goals as goal

pub returns-then-n-lt2 : goal.returns-then-n-lt2
returns-then-n-lt2 c = let a = c.args in behind-none a.octets.now a.at (omega arith)

pub returns-then-n-at : goal.returns-then-n-at
returns-then-n-at c = let a = c.args in behind-none a.octets.now a.at (omega arith)

pub returns-then-n-head : goal.returns-then-n-head
returns-then-n-head c = let a = c.args in
    behind-cut a.octets.now a.at _ (omega arith) c.wide-size.ensures.0 (omega arith)

pub returns : goal.returns
returns c = let a = c.args in
    behind-whole a.octets.now a.at _ (omega arith) c.wide-size.ensures.0 (omega arith)
