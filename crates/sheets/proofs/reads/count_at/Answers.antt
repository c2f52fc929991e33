use native.Mathlib.Omega.{arith}
use Rattle.std.proofs.Common.{ℕ, ◌≡◌, length, subst, ap, ◌∙◌}
use Rattle.sheets.specs.Reading.{Counted}
use Rattle.sheets.specs.Least.{grown}
use Rattle.sheets.proofs.ReadingLaws.{counting-start, counting-stop, counting-on, counting-end}
use Rattle.sheets.proofs.reads.count_at.Goals as goal

pub loop-i-init : goal.loop-i-init
loop-i-init c = counting-start c.args.text.now c.args.at (omega arith)

pub returns-then-c-lt-MINUS : goal.returns-then-c-lt-MINUS
returns-then-c-lt-MINUS c = let a = c.args in
    let l = c.loop-i in
    counting-stop a.text.now a.at l.i l.value l.invariant (omega arith) (omega arith)

pub loop-i-smaller : goal.loop-i-smaller
loop-i-smaller c = omega arith

pub loop-i-preserved : goal.loop-i-preserved
loop-i-preserved c = let a = c.args in
    let l = c.loop-i in
    counting-on a.text.now a.at l.i l.value l.invariant (omega arith) (omega arith)
    (c.grown-value.ensures ∙ ap (grown l.value) c.digit.ensures)

pub returns : goal.returns
returns c = let a = c.args in
    let l = c.loop-i in
    let e : l.i ≡ length a.text.now = omega arith in
    subst (λ (n : ℕ). Counted a.text.now a.at l.value n) e
    (counting-end a.text.now a.at l.i l.value l.invariant (omega arith))
