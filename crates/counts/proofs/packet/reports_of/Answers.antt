use native.Mathlib.Omega.{arith}
use Rattle.counts.specs.Turns.{reports-one, reports-two}
use Rattle.counts.proofs.packet.reports_of.Goals as goal

pub returns-then-payload-end : goal.returns-then-payload-end
returns-then-payload-end c = reports-one c.args.payload.now
    (omega (arith, c.wide-end.ensures))

pub returns : goal.returns
returns c = reports-two c.args.payload.now
    (omega (arith, c.wide-end.ensures))
