use Rattle.std.proofs.Common.{arith}
use Rattle.totals.specs.GainsLaws.{level-reads, wide-made}
use Rattle.totals.proofs.RowFromGain.from.Goals as goal

pub returns : goal.returns
returns c =
    let g = c.args.g in
    wide-made g c.from.ensures c.from-2.ensures c.from-3.ensures (level-reads g.level (omega arith) c.from-4.ensures)
