use native.Mathlib.Omega.{arith}
use Rattle.save.specs.PassedLaws.{rest-passed}
use Rattle.save.proofs.passes.rest.Goals as goal

pub returns : goal.returns
returns c = let a = c.args in
    rest-passed a.text.now (omega arith) a.s.now _ _ _ _ c.at_most-n.ensures.0
    c.live_in-u.ensures.0 c.monitors-a.ensures c.pairs-b.ensures
    c.end.ensures
