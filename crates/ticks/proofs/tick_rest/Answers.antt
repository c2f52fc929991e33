use Prim.Native.Nat.{◌-◌}
use mathlib.Core.Path.{◌≡◌, refl, ◌∙◌}
use native.Mathlib.Omega.{arith}
use Rattle.ticks.specs.TableLaws.{passed-turn}
use Rattle.ticks.proofs.tick_rest.Goals as goal

pub loop-i-init : goal.loop-i-init
loop-i-init c = (omega arith, omega arith, omega arith, refl, refl, λ u p. p)

pub tick_row-turn-requires : goal.tick_row-turn-requires
tick_row-turn-requires c = let l = c.loop-i in
    (omega arith, l.invariant.1, omega (arith, l.invariant.3), omega (arith, l.invariant.4, l.invariant.2), omega arith)

pub calm_behind-next-requires : goal.calm_behind-next-requires
calm_behind-next-requires c = (
  omega arith,
  omega arith,
  c.tick_row-turn.auto.t
      ∙ c.loop-i.invariant.3 ∙ c.requires.2,
  c.requires.5,
  c.requires.6,
)

pub loop-i-smaller : goal.loop-i-smaller
loop-i-smaller c = omega arith

pub loop-i-preserved : goal.loop-i-preserved
loop-i-preserved c = let a = c.args in
    let l = c.loop-i in
    let e = c.tick_row-turn.ensures in
    let x = c.calm_behind-next in (
      x.ensures.1,
      omega (arith, e.kept-most, l.invariant.1, x.ensures.0),
      omega (arith, e.wrote-most, l.invariant.2, x.ensures.0),
      x.auto.t ∙ c.tick_row-turn.auto.t ∙ l.invariant.3,
      c.tick_row-turn.auto.out ∙ l.invariant.4,
      λ u p. x.ensures.2 u a.out.now _ a.filters.now a.prefix.now _
          c.requires.4
          (passed-turn a.intervals.now a.periods.now a.filters.now a.prefix.now u a.out.now l.i
          l.invariant.1 (l.invariant.5 u p) e),
    )

pub shape_of-t : goal.shape_of-t
shape_of-t c = c.loop-i.invariant.3

pub shape_of-out : goal.shape_of-out
shape_of-out c = c.loop-i.invariant.4

pub returns : goal.returns
returns c = let a = c.args in
    let l = c.loop-i in
    let e : l.i ≡ a.n = omega arith in
    (omega (arith, l.invariant.1), omega (arith, l.invariant.2), λ u p. rw e at (l.invariant.5 u p))
