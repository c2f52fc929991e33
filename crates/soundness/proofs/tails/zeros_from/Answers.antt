use native.Mathlib.Omega.{arith}
use Prim.Native.Nat.{◌-◌}
use mathlib.Core.Path.{◌∙◌}
use Rattle.soundness.specs.TailsLaws.{or_left, joined-none, joined-more, joined_end}
use Rattle.soundness.proofs.tails.zeros_from.Goals as goal

pub returns-then-n-from-lt8 : goal.returns-then-n-from-lt8
returns-then-n-from-lt8 c = c.zeros_four.ensures

pub loop-i-init : goal.loop-i-init
loop-i-init c = let a = c.args in (
  omega arith,
  joined-none a.r.now _ (omega arith) (omega arith) c.get64-any.ensures a.from
      (omega arith),
  λ e. e,
)

pub loop-i-smaller : goal.loop-i-smaller
loop-i-smaller c = omega arith

pub loop-i-preserved : goal.loop-i-preserved
loop-i-preserved c = let l = c.loop-i in
    let a = c.args in (
      omega arith,
      joined-more a.r.now l.i (omega arith) c.get64-any-in-loop-i.ensures l.any a.from
          l.invariant.1,
      λ e. l.invariant.2 (or_left l.any _ e),
    )

pub returns : goal.returns
returns c = let l = c.loop-i in
    let a = c.args in
    joined_end a.r.now _ (omega arith) (omega arith) c.get64-any.ensures l.i l.any
    (omega arith) l.invariant.2 ∙ l.invariant.1
