use Prim.Native.Nat.{ℕ, ◌+◌, ◌-◌}
use mathlib.Core.Path.{ap, ◌∙◌}
use native.Mathlib.Omega.{arith}
use Rattle.packets.specs.Moves.{AtPair}
use Rattle.counts.specs.TicksLaws.{from-one, from-least, closed_none, closed-turn, closed-end}
use Rattle.counts.proofs.tick.count_closed.Goals as goal

pub loop-i-init : goal.loop-i-init
loop-i-init c = (omega arith, omega arith, λ m k w. closed_none m c.args.h)

pub loop-i-smaller : goal.loop-i-smaller
loop-i-smaller c = omega arith

pub loop-i-preserved : goal.loop-i-preserved
loop-i-preserved c = let a = c.args in let l = c.loop-i in (
  omega arith,
  omega (arith, from-least _ _ c.from-k.ensures),
  λ m k w.
      let x : AtPair m a.s.now l.i =
      record { measured = w.measured; block = w.block; within = omega (arith, w.count) } in
      ap (λ (j : ℕ). l.k + j) (from-one _ _ c.from-k.ensures)
      ∙ closed-turn m a.h l.i l.k c.is_closed.result x.within (l.invariant.2 m k w)
      (c.is_closed.ensures m k x),
)

pub returns : goal.returns
returns c = let a = c.args in let l = c.loop-i in (
  omega arith,
  λ m k w. closed-end m a.h l.i l.k (omega (arith, w.count)) (l.invariant.2 m k w),
)
