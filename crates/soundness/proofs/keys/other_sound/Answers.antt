use Rattle.soundness.specs.Below.{all_below}
use mathlib.Core.Bool.{true}
use Prim.Native.Nat.{◌-◌}
use Rattle.soundness.specs.CodePairsLaws.{other-stop, other-more, other-end}
use mathlib.Core.Path.{refl}
use native.Mathlib.Omega.{arith}
use Rattle.soundness.proofs.keys.other_sound.Goals as goal

pub loop-j-init : goal.loop-j-init
unfolding all_below
loop-j-init c = (omega arith, refl)

pub returns-then-key-get64 : goal.returns-then-key-get64
returns-then-key-get64 c = other-stop c.args.s.now c.requires.0 c.args.i c.loop-j.j c.requires.1 (omega arith)
    c.get64-key.ensures c.get64.ensures c.if-key-get64.true

pub loop-j-smaller : goal.loop-j-smaller
loop-j-smaller c = omega arith

pub loop-j-preserved : goal.loop-j-preserved
loop-j-preserved c = (
  omega arith,
  other-more c.args.s.now c.requires.0 c.args.i
      c.loop-j.j c.requires.1 (omega arith) c.get64-key.ensures
      c.get64.ensures c.if-key-get64.false c.loop-j.invariant.1,
)

pub returns : goal.returns
returns c = other-end c.args.s.now c.requires.0 c.args.i c.loop-j.j c.loop-j.invariant.1 (omega arith)
