use native.Mathlib.Omega.{arith}
use Rattle.index.specs.WrittenLaws.{row_written}
use Rattle.index.proofs.table.put_row.Goals as goal

pub returns : goal.returns
returns c = let f = c.put64 in
    let g = c.put8 in
    row_written c.args.row.now c.args.dev c.args.mask c.requires.0 c.requires.1 (omega arith) f.auto.out
    f.ensures.0 f.ensures.1 g.ensures.0 g.ensures.1
