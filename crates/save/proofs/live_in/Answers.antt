use Prim.Native.Nat.{◌-◌}
use mathlib.Core.Path.{◌≡◌}
use Rattle.save.specs.StepsTurns.{live-none, live-turn}
use native.Mathlib.Omega.{arith}
use Rattle.model.specs.Layout.{most_monitors}
use Rattle.save.proofs.live_in.Goals as goal

pub loop-h-init : goal.loop-h-init
loop-h-init c = (omega arith, omega arith, live-none _)

pub overflow_add-n : goal.overflow_add-n
overflow_add-n c = omega (arith, c.one_if-n.ensures.1)

pub loop-h-smaller : goal.loop-h-smaller
loop-h-smaller c = omega arith

pub loop-h-preserved : goal.loop-h-preserved
loop-h-preserved c = (
  omega arith,
  omega (arith, c.one_if-n.ensures.1),
  live-turn _ c.loop-h.h
      c.loop-h.invariant.2 c.one_if-n.ensures.0,
)

pub returns : goal.returns
returns c = let e : c.loop-h.h ≡ most_monitors = omega arith in (rw e at c.loop-h.invariant.2, omega arith)
