use Rattle.fips197.specs.WordsLaws.{octets-word}
use native.Mathlib.Omega.{arith}
use Rattle.aes.proofs.column.Goals as goal

pub returns : goal.returns
returns c = let a = c.args in
    let p = c.from in
    let q = c.from-2 in
    let u = c.from-3 in
    let v = c.from-4 in
    rw (p.ensures, q.ensures, u.ensures, v.ensures)
    (octets-word a.p a.q a.u a.v (omega arith) (omega arith) (omega arith) (omega arith))
