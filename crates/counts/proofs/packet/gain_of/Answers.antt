use Rattle.counts.specs.Turns.{gain-made}
use Rattle.counts.proofs.packet.gain_of.Goals as goal

pub returns : goal.returns
returns c = let a = c.args in
    gain-made a.cause a.payload.now c.reports_if-reports.ensures c.level_of-level.ensures
