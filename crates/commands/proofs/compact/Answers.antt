use Rattle.commands.specs.KeptLaws.{kept-most}
use native.Mathlib.Omega.{arith}
use Rattle.commands.specs.KeptLaws.{kept-none, kept-turn, kept-all}
use mathlib.Core.Path.{refl, ◌∙◌}
use Prim.Native.Nat.{◌-◌}
use Rattle.commands.proofs.compact.Goals as goal

pub loop-i-init : goal.loop-i-init
loop-i-init c = (omega arith, omega arith, refl, λ qs t e. kept-none _ _ qs)

pub loop-i-smaller : goal.loop-i-smaller
loop-i-smaller c = omega arith

pub loop-i-preserved : goal.loop-i-preserved
loop-i-preserved c = let a = c.args in
    let l = c.loop-i in
    let e = c.keep_row-k.ensures in (
      omega (arith, kept-most a.h l.s l.i, e.0),
      omega arith,
      c.s-1.given ∙ l.invariant.2,
      λ qs t q. let j = l.invariant.3 qs t q in
          kept-turn a.h a.s.now qs t (omega arith) l.i (omega arith) j.0 j.1 e.0 e.1,
    )

pub shape_of-s : goal.shape_of-s
shape_of-s c = c.loop-i.invariant.2

pub returns : goal.returns
returns c = let l = c.loop-i in
    record { most = omega arith; kept = λ qs t q. kept-all _ _ qs l.i (omega arith) (l.invariant.3 qs t q) }
