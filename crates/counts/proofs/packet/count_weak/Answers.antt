use Prim.Native.Nat.{ℕ, ◌+◌, ◌-◌}
use mathlib.Core.Path.{ap, ◌∙◌}
use native.Mathlib.Omega.{arith}
use Rattle.packets.specs.Moves.{AtPair}
use Rattle.counts.specs.TicksLaws.{from-one, from-least}
use Rattle.counts.specs.SearchLaws.{weak-none, weak-turn, weak-end, pair_read}
use Rattle.counts.proofs.packet.count_weak.Goals as goal

pub loop-i-init : goal.loop-i-init
loop-i-init c = (omega arith, omega arith, λ m p w g e. weak-none m.mons p m.pairs)

pub loop-i-smaller : goal.loop-i-smaller
loop-i-smaller c = omega arith

pub loop-i-preserved : goal.loop-i-preserved
loop-i-preserved c = let a = c.args in
    let l = c.loop-i in (
      omega arith,
      omega (arith, from-least _ _ c.from-k.ensures),
      λ m p w g e.
          let x : AtPair m a.s.now l.i =
          record { measured = w.measured; block = w.block; within = omega (arith, w.count) } in
          ap (λ (k : ℕ). l.k + k) (from-one _ _ c.from-k.ensures)
          ∙ weak-turn m.mons p m.pairs l.i l.k c.is_weak.result x.within
          (l.invariant.2 m p w g e)
          (pair_read m l.i p (c.is_weak.ensures m p x g e)),
    )

pub returns : goal.returns
returns c = let l = c.loop-i in (
  omega arith,
  λ m p w g e. weak-end m.mons p m.pairs l.i l.k (omega (arith, w.count)) (l.invariant.2 m p w g e),
)
