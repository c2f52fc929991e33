use Prim.Native.Nat.{◌-◌}
use native.Mathlib.Omega.{arith}
use mathlib.Core.Path.{refl, sym, ◌∙◌}
use borrow.Author.Rules.{rules}
use Rattle.additions.specs.AnswersTurns.{fed-more, fed-end}
use Rattle.additions.proofs.feed.Goals as goal

pub loop-c-init : goal.loop-c-init
loop-c-init c = (omega arith, omega arith, refl)

pub step-now-requires : goal.step-now-requires
step-now-requires c = c.loop-c.invariant.1

pub loop-c-smaller : goal.loop-c-smaller
loop-c-smaller c = omega arith

pub loop-c-preserved : goal.loop-c-preserved
loop-c-preserved c = let a = c.args in
    let l = c.loop-c in (
      omega arith,
      search rules,
      l.invariant.2
          ∙ fed-more _ _ a.text.now l.c-index (omega arith) c.step-now.ensures,
    )

pub returns : goal.returns
returns c = let a = c.args in
    let l = c.loop-c in
    sym (l.invariant.2 ∙ fed-end _ a.text.now l.c-index (omega arith))
