use Prim.Native.Nat.{◌-◌}
use mathlib.Core.Path.{◌≡◌}
use lib.ListN.{length-take, length-drop}
use native.Mathlib.Omega.{arith}
use Rattle.model.specs.Layout.{most_monitors}
use Rattle.save.specs.StepsTurns.{part-monitor}
use Rattle.save.specs.PassedLaws.{monitors-begin, monitor-passed}
use Rattle.save.proofs.passes.monitors.Goals as goal

pub loop-h-init : goal.loop-h-init
loop-h-init c = let a = c.args in
    (omega arith, monitors-begin a.text.now (omega arith) a.s.now 0)

pub monitor-at-requires : goal.monitor-at-requires
monitor-at-requires c = simp (length-take, length-drop) (omega arith)

pub loop-h-smaller : goal.loop-h-smaller
loop-h-smaller c = omega arith

pub loop-h-preserved : goal.loop-h-preserved
loop-h-preserved c = let a = c.args in
    let l = c.loop-h in (
      omega arith,
      monitor-passed a.text.now (omega arith) a.s.now 0 l.h
          (rw (part-monitor a.s.now l.h, l.invariant.1) at c.monitor-at.ensures),
    )

pub returns : goal.returns
returns c = let e : c.loop-h.h ≡ most_monitors = omega arith in rw e at c.loop-h.invariant.1
