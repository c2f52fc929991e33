use Prim.Native.Nat.{◌-◌}
use mathlib.Core.Path.{◌≡◌}
use lib.ListN.{length-take, length-drop}
use native.Mathlib.Omega.{arith}
use Rattle.save.specs.StepsTurns.{part_pair}
use Rattle.save.specs.PassedLaws.{pairs-begin, pair-passed}
use Rattle.save.proofs.passes.pairs.Goals as goal

pub loop-i-init : goal.loop-i-init
loop-i-init c = let a = c.args in
    (omega arith, pairs-begin a.text.now (omega arith) a.s.now a.from)

pub pair-at-requires : goal.pair-at-requires
pair-at-requires c = simp (length-take, length-drop) (omega arith)

pub loop-i-smaller : goal.loop-i-smaller
loop-i-smaller c = omega arith

pub loop-i-preserved : goal.loop-i-preserved
loop-i-preserved c = let a = c.args in
    let l = c.loop-i in (
      omega arith,
      pair-passed a.text.now (omega arith) a.s.now a.from l.i
          (rw (part_pair a.s.now l.i, l.invariant.1) at c.pair-at.ensures),
    )

pub returns : goal.returns
returns c = let e : c.loop-i.i ≡ c.args.n = omega arith in
    rw e at c.loop-i.invariant.1
