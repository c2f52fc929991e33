use mathlib.Core.Bool.{not}
use Rattle.std.proofs.Common.{ap}
use native.Mathlib.Omega.{arith}
use Prim.Native.Nat.{◌-◌}
use mathlib.Core.Path.{◌≡◌, refl, sym}
use mathlib.Core.Bool.{true}
use Rattle.soundness.specs.Below.{all_below}
use Rattle.soundness.specs.SeenLaws.{marked-none}
use Rattle.soundness.specs.CodePairsLaws.{others-stop, others-more}
use Rattle.soundness.proofs.keys.are_others.Goals as goal

pub loop-i-init : goal.loop-i-init
unfolding Rattle.soundness.specs.Below.all_below
loop-i-init c = (omega arith, refl, refl, marked-none _ _)

pub returns-then-not-take_key : goal.returns-then-not-take_key
returns-then-not-take_key c = others-stop c.args.s.now c.loop-i.i c.take_key.ensures.0 c.args.c
    (omega arith) (ap not c.if-not-take_key.true)

pub loop-i-smaller : goal.loop-i-smaller
loop-i-smaller c = omega arith

pub loop-i-preserved : goal.loop-i-preserved
loop-i-preserved c = let l = c.loop-i in (
  omega arith,
  others-more c.args.s.now l.i c.take_key.ensures.0 l.invariant.1
      (ap not c.if-not-take_key.false),
  omega arith,
  c.take_key.ensures.1,
)

pub returns : goal.returns
returns c = let e : c.loop-i.i ≡ c.args.c = omega arith in
    sym (rw e at c.loop-i.invariant.1)
