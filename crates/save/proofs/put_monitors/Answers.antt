use Prim.Native.Nat.{◌-◌}
use mathlib.Core.Path.{◌≡◌, refl}
use lib.ListN.{length-take, length-drop}
use Rattle.save.specs.StepsTurns.{monitors-none, monitors-turn, part-monitor}
use Rattle.save.specs.TextLaws.{length-monitors_text}
use native.Mathlib.Omega.{arith}
use borrow.Author.Rules.{rules}
use Rattle.model.specs.Layout.{most_monitors}
use Rattle.save.proofs.put_monitors.Goals as goal

pub loop-h-init : goal.loop-h-init
loop-h-init c = let z = monitors-none c.args.s.now c.args.out.now
    c.args.at in
    (omega arith, refl, z.0, z.1)

pub put_monitor-next-requires : goal.put_monitor-next-requires
put_monitor-next-requires c = (
  simp (length-take, length-drop) (omega arith),
  omega (
    arith,
    length-monitors_text c.args.s.now
        c.loop-h.h,
  ),
)

pub loop-h-smaller : goal.loop-h-smaller
loop-h-smaller c = omega arith

pub loop-h-preserved : goal.loop-h-preserved
loop-h-preserved c = let a = c.args in
    let l = c.loop-h in
    let p = rw (part-monitor a.s.now l.h) at c.put_monitor-next.ensures in
    let t = monitors-turn a.s.now a.out.now a.at l.h (omega arith) l.invariant.2 l.invariant.3 p.0
    p.1 in
    (omega arith, search rules, t.0, t.1)

pub shape_of-out : goal.shape_of-out
shape_of-out c = c.loop-h.invariant.1

pub returns : goal.returns
returns c = let e : c.loop-h.h ≡ most_monitors = omega arith in
    let q = rw e at c.loop-h.invariant in
    (q.2, q.3)
