use native.Mathlib.Omega.{arith}
use Rattle.index.specs.WrittenLaws.{bit-written}
use Rattle.index.proofs.table.put_bit.Goals as goal

pub returns : goal.returns
returns c = bit-written c.args.table.now c.args.j c.args.bit c.requires.0 c.requires.1 (omega arith)
    c.get16-mask.ensures c.put16.ensures.0 c.put16.ensures.1
