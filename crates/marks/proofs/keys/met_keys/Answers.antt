use Rattle.marks.specs.Asked.{asked_of}
use Prim.Native.Nat.{◌-◌}
use mathlib.Core.Path.{◌≡◌, refl}
use native.Mathlib.Omega.{arith}
use lib.ListN.{length-set}
use Rattle.model.specs.Layout.{most_monitors}
use Rattle.marks.proofs.KeyedLaws.{keyed-turn}
use Rattle.marks.proofs.keys.met_keys.Goals as goal

pub loop-h-init : goal.loop-h-init
loop-h-init c = (omega arith, refl, λ j b n k. absurd (omega arith))

pub loop-h-smaller : goal.loop-h-smaller
loop-h-smaller c = omega arith

pub loop-h-preserved : goal.loop-h-preserved
loop-h-preserved c = let a = c.args in
    let l = c.loop-h in (
      omega arith,
      simp length-set l.invariant.1,
      keyed-turn l.met a.s.now (asked_of a.held.now a.s.now a.reach) a.payload.now l.h
          c.met_key-m.result (omega arith) l.invariant.2 c.met_key-m.ensures,
    )

pub returns : goal.returns
returns c = let l = c.loop-h in
    let e : l.h ≡ most_monitors = omega arith in
    rw e at l.invariant.2
