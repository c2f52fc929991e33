use native.Mathlib.Omega.{arith}
use mathlib.Core.Path.{◌∙◌}
use Rattle.marks.proofs.AskedLaws.{ask-said}
use Rattle.marks.proofs.KeyedLaws.{flag-some}
use Rattle.marks.proofs.keys.first_alike.Goals as goal

pub returns-then-same_condition : goal.returns-then-same_condition
returns-then-same_condition c = let a = c.args in
    let l = c.loop-j in (
      omega arith,
      λ e. flag-some _ c.if-ask_at.true (ask-said a.held.now a.s.now a.reach l.j (omega arith)
          c.ask_at.ensures ∙ e),
      c.same_condition.ensures c.if-same_condition.true,
    )
