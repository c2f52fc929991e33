use Rattle.model.specs.Layout.{most_monitors}
use Rattle.twin.specs.MonitorRowsLaws.{Turned}
use Rattle.std.proofs.Common.{◌-◌}
use Rattle.twin.proofs.image.put_monitors.Given as goal

abbrev pub invariant-loop-h : goal.invariant-loop-h
invariant-loop-h l =
    Turned l.t l.live l.initial.b l.h l.b
