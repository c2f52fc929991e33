use Prim.Native.Nat.{◌-◌}
use mathlib.Core.Path.{◌≡◌, refl}
use lib.ListN.{length-take, length-drop}
use Rattle.save.specs.StepsTurns.{pairs-none, pairs-turn, part_pair}
use Rattle.save.specs.TextLaws.{length-pairs_text}
use native.Mathlib.Omega.{arith}
use borrow.Author.Rules.{rules}
use Rattle.save.proofs.put_pairs.Goals as goal

pub loop-i-init : goal.loop-i-init
loop-i-init c = let z = pairs-none c.args.s.now c.args.out.now
    c.args.at in
    (omega arith, refl, z.0, z.1)

pub put_pair-next-requires : goal.put_pair-next-requires
put_pair-next-requires c = (
  simp (length-take, length-drop) (omega arith),
  omega (
    arith,
    length-pairs_text c.args.s.now
        c.loop-i.i,
  ),
)

pub loop-i-smaller : goal.loop-i-smaller
loop-i-smaller c = omega arith

pub loop-i-preserved : goal.loop-i-preserved
loop-i-preserved c = let a = c.args in
    let l = c.loop-i in
    let p = rw (part_pair a.s.now l.i) at c.put_pair-next.ensures in
    let t = pairs-turn a.s.now a.out.now a.at l.i (omega arith) l.invariant.2 l.invariant.3 p.0 p.1 in
    (omega arith, search rules, t.0, t.1)

pub shape_of-out : goal.shape_of-out
shape_of-out c = c.loop-i.invariant.1

pub returns : goal.returns
returns c = let e : c.loop-i.i ≡ c.args.n = omega arith in
    let q = rw e at c.loop-i.invariant in
    (q.2, q.3)
