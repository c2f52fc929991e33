use lib.ListN.{length-set}
use lib.Seq.{length-take-le}
use native.Mathlib.Omega.{arith}
use mathlib.Core.Path.{sym, ◌∙◌}
use Rattle.additions.specs.AnswersTurns.{step-stopped, step-ended, step-longer}
use Rattle.additions.proofs.step.Goals as goal

pub returns-then-is_err : goal.returns-then-is_err
returns-then-is_err c = step-stopped _ _ _ _ (sym c.is_err.ensures.value ∙ c.if-is_err.true)

pub slice_bounds-give-end : goal.slice_bounds-give-end
slice_bounds-give-end c = simp length-set (omega (arith, c.min-held.ensures))

pub slice_bounds-give-end-then-c-eq-LF : goal.slice_bounds-give-end-then-c-eq-LF
slice_bounds-give-end-then-c-eq-LF c = sym (length-take-le _ _ (simp length-set (omega (arith, c.min-held.ensures))))

pub returns-then-c-eq-LF : goal.returns-then-c-eq-LF
returns-then-c-eq-LF c = let a = c.args in
    step-ended a.s.now a.line.now a.course a.c
    (sym c.is_err.ensures.value ∙ c.if-is_err.false) c.min-held.result
    c.min-held.ensures c.if-c-eq-LF.true c.give.result c.give.new.s
    c.after.result c.give.ensures c.after.ensures

pub returns : goal.returns
returns c = let a = c.args in
    step-longer a.s.now a.line.now a.course a.c
    (sym c.is_err.ensures.value ∙ c.if-is_err.false) c.min-held.result
    c.min-held.ensures (λ z. c.if-c-eq-LF.false z) c.min.result c.min.ensures
