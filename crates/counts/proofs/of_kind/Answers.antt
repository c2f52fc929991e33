use Rattle.counts.specs.FramesLaws.{adds-kind, adds-other}
use Rattle.totals.specs.GainsLaws.{no-gains-wide}
use Rattle.counts.proofs.of_kind.Goals as goal

pub returns-then-kind-eq2 : goal.returns-then-kind-eq2
returns-then-kind-eq2 c = let a = c.args in
    adds-kind a.s.now a.payload.now a.kind 2 c.if-kind-eq2.true c.of_packet.ensures

pub returns-then-kind-eq3 : goal.returns-then-kind-eq3
returns-then-kind-eq3 c = let a = c.args in
    adds-kind a.s.now a.payload.now a.kind 3 c.if-kind-eq3.true c.of_tick.ensures

pub returns-then-kind-eq4 : goal.returns-then-kind-eq4
returns-then-kind-eq4 c = let a = c.args in
    adds-kind a.s.now a.payload.now a.kind 4 c.if-kind-eq4.true c.of_scanned.ensures

pub returns : goal.returns
returns c = let a = c.args in
    adds-other a.s.now a.payload.now a.kind c.if-kind-eq2.false c.if-kind-eq3.false
    c.if-kind-eq4.false (no-gains-wide c.no_gains.ensures)
