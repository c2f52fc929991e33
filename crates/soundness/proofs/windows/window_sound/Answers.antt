use mathlib.Core.Bool.{not}
use Rattle.std.proofs.Common.{ap}
use Rattle.soundness.specs.CodeLaws.{window-idle}
use Rattle.soundness.specs.EarlyLaws.{window-late, window-many, window-sum}
use native.Mathlib.Omega.{arith}
use Rattle.soundness.proofs.windows.window_sound.Goals as goal

pub returns-then-not-runs : goal.returns-then-not-runs
returns-then-not-runs c = let a = c.args in
    window-idle a.position a.sampling a.ticks a.packets a.sum (c.if-not-runs.true)

pub returns-then-sampling-ticks : goal.returns-then-sampling-ticks
returns-then-sampling-ticks c = let a = c.args in
    window-late a.position a.sampling a.ticks a.packets a.sum (omega arith) (omega arith)
    (ap not c.if-not-runs.false) c.if-sampling-ticks.true

pub returns-then-position-packets : goal.returns-then-position-packets
returns-then-position-packets c = let a = c.args in
    window-many a.position a.sampling a.ticks a.packets a.sum (omega arith) (omega arith)
    (ap not c.if-not-runs.false) c.if-position-packets.true

pub returns : goal.returns
returns c = let a = c.args in rw c.from.ensures
    (window-sum a.position a.sampling a.ticks a.packets a.sum (omega arith) (omega arith)
    (ap not c.if-not-runs.false) c.if-sampling-ticks.false c.if-position-packets.false
    c.sum_above.ensures)
