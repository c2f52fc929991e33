use Rattle.std.proofs.Common.{length}
use Rattle.month.proofs.NumbersLaws.{rowed}
use Rattle.bournejade.proofs.bournejade_count_line.Goals as goal

pub returns : goal.returns
returns c =
    let a = c.args in
    rowed (length a.rows.now) a.state.now a.line.now a.out.now a.rows.now c.count_line-a.ensures c.told.ensures.0
    c.told.ensures.1
