use native.Mathlib.Omega.{arith}
use Rattle.aes.specs.BlocksLaws.{key-columns}
use Rattle.aes.proofs.next_key.Goals as goal

pub returns : goal.returns
returns c = let a = c.args in
    key-columns a.k a.rc c.turn1-w.result c.sub_word.result c.from.result c.sum-u.result
    c.sum-a.result c.sum-b.result c.sum-c.result
    c.sum-d.result (omega arith) c.turn1-w.ensures c.sub_word.ensures c.from.ensures
    c.sum-u.ensures c.sum-a.ensures c.sum-b.ensures
    c.sum-c.ensures c.sum-d.ensures
