use Prim.Native.Nat.{◌+◌, ◌*◌}
use borrow.Rule.Slice.PartMut.{same_len_mid}
use Rattle.model.specs.Layout.{pair_size}
use Rattle.ticks.specs.CalmLaws.{part_length}
use Prim.Native.Nat.{◌-◌}
use mathlib.Core.Path.{◌≡◌, refl, ◌∙◌}
use native.Mathlib.Omega.{arith}
use Rattle.ticks.specs.CalmLaws.{calm-none, calm_more, calm-left, calm-turn}
use Rattle.ticks.proofs.calm.calm_rows.Goals as goal

pub loop-i-init : goal.loop-i-init
loop-i-init c = (omega arith, omega arith, refl, calm-none _ _ _ _ _)

pub calm_row-requires : goal.calm_row-requires
calm_row-requires c = let p = c.requires in
    let l = c.loop-i in
    (part_length l.i l.t (omega arith) (l.invariant.2 ∙ p.2), p.3, p.4)

pub shape_of-t-then-not-calm_row : goal.shape_of-t-then-not-calm_row
shape_of-t-then-not-calm_row c = let l = c.loop-i in
    let r = c.calm_row in
    same_len_mid (pair_size * l.i) (pair_size * l.i + pair_size - pair_size * l.i) l.t r.new.r r.auto.r
    ∙ l.invariant.2

pub returns-then-not-calm_row : goal.returns-then-not-calm_row
returns-then-not-calm_row c = let a = c.args in
    let p = c.requires in
    let l = c.loop-i in
    let r = c.calm_row in
    let e = calm-left a.intervals.now a.periods.now l.t l.i (omega arith) (l.invariant.2 ∙ p.2) refl
    (r.ensures.0 (c.if-not-calm_row.true)) in
    (l.invariant.0, l.invariant.1, rw e l.invariant.3)

pub loop-i-smaller : goal.loop-i-smaller
loop-i-smaller c = omega arith

pub loop-i-preserved : goal.loop-i-preserved
loop-i-preserved c = let a = c.args in
    let p = c.requires in
    let l = c.loop-i in
    let r = c.calm_row in (
      omega arith,
      omega arith,
      same_len_mid (pair_size * l.i) (pair_size * l.i + pair_size - pair_size * l.i) l.t r.new.r r.auto.r
          ∙ l.invariant.2,
      calm_more a.intervals.now a.periods.now a.t.now a.from l.i l.invariant.0 l.invariant.3
          (calm-turn a.intervals.now a.periods.now l.t l.i (omega arith) (l.invariant.2 ∙ p.2) refl
          (r.ensures.1 (c.if-not-calm_row.false))),
    )

pub shape_of-t : goal.shape_of-t
shape_of-t c = c.loop-i.invariant.2

pub returns : goal.returns
returns c = let a = c.args in
    let l = c.loop-i in
    let e : l.i ≡ a.n = omega (arith, l.invariant.1) in
    (omega arith, omega arith, rw e at l.invariant.3)
