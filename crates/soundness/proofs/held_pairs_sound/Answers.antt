use mathlib.Core.Bool.{not}
use Rattle.std.proofs.Common.{ap}
use native.Mathlib.Omega.{arith}
use Prim.Native.Nat.{◌-◌}
use mathlib.Core.Path.{◌≡◌, refl, sym}
use mathlib.Core.Bool.{true}
use Rattle.soundness.specs.Below.{all_below}
use Rattle.soundness.specs.CodePairsLaws.{pairs-stop, pairs-more}
use Rattle.soundness.proofs.held_pairs_sound.Goals as goal

pub loop-i-init : goal.loop-i-init
unfolding Rattle.soundness.specs.Below.all_below
loop-i-init c = (omega arith, refl)

pub pair_sound-requires : goal.pair_sound-requires
pair_sound-requires c = (c.requires.0, omega arith)

pub returns-then-not-pair_sound : goal.returns-then-not-pair_sound
returns-then-not-pair_sound c = pairs-stop c.args.s.now c.loop-i.i c.pair_sound.ensures c.args.c
    (omega arith) (ap not c.if-not-pair_sound.true)

pub loop-i-smaller : goal.loop-i-smaller
loop-i-smaller c = omega arith

pub loop-i-preserved : goal.loop-i-preserved
loop-i-preserved c = let l = c.loop-i in (
  omega arith,
  pairs-more c.args.s.now l.i c.pair_sound.ensures l.invariant.1
      (ap not c.if-not-pair_sound.false),
)

pub returns : goal.returns
returns c = let e : c.loop-i.i ≡ c.args.c = omega arith in
    sym (rw e at c.loop-i.invariant.1)
