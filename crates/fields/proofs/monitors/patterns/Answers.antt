use Prim.Native.Nat.{◌+◌, ◌-◌}
use mathlib.Core.Path.{◌≡◌, refl}
use native.Mathlib.Omega.{arith}
use Rattle.fields.specs.CutsLaws.{left-turn, left_end}
use Rattle.fields.specs.Monitors.{patterns_text}
use Rattle.fields.specs.Turns.{patterns-end, patterns-next}
use Rattle.fields.proofs.monitors.patterns.Goals as goal

pub loop-i-init : goal.loop-i-init
loop-i-init c = (refl, omega arith, λ o r t. t)

pub loop-i-preserved : goal.loop-i-preserved
loop-i-preserved c = (
  refl,
  omega arith,
  let k : c.loop-i.i +
      c.size.result - c.loop-i.i
      ≡ c.size.result = omega arith in left-turn (patterns_text) c.args.s.now c.loop-i.i
      (c.loop-i.i + c.size.result) (patterns-next c.args.s.now
      c.loop-i.i c.size.result (omega arith)
      c.size.ensures.0 c.size.ensures.1)
      c.loop-i.invariant.2 (rw k at c.pattern-end.ensures),
)

pub returns : goal.returns
returns c = left_end (patterns_text) c.args.s.now c.loop-i.i
    (patterns-end c.args.s.now c.loop-i.i (omega arith))
    c.loop-i.invariant.2
