use mathlib.Core.Bool.{not}
use Rattle.std.proofs.Common.{ap}
use mathlib.Core.Bool.{true}
use Rattle.soundness.specs.Below.{all_below}
use Prim.Native.Nat.{◌-◌}
use Rattle.soundness.specs.CodeLaws.{monitors-stop, monitors-more, monitors-end}
use mathlib.Core.Path.{refl}
use native.Mathlib.Omega.{arith}
use Rattle.soundness.proofs.monitors_sound.Goals as goal

pub loop-h-init : goal.loop-h-init
unfolding all_below
loop-h-init c = (omega arith, refl)

pub returns-then-not-monitor_sound : goal.returns-then-not-monitor_sound
returns-then-not-monitor_sound c = monitors-stop c.args.s.now c.loop-h.h c.monitor_sound.ensures (omega arith)
    (ap not c.if-not-monitor_sound.true)

pub loop-h-smaller : goal.loop-h-smaller
loop-h-smaller c = omega arith

pub loop-h-preserved : goal.loop-h-preserved
loop-h-preserved c = (
  omega arith,
  monitors-more c.args.s.now
      c.loop-h.h c.monitor_sound.ensures c.loop-h.invariant.1 (ap not c.if-not-monitor_sound.false),
)

pub returns : goal.returns
returns c = monitors-end c.args.s.now c.loop-h.h c.loop-h.invariant.1
    (omega arith)
