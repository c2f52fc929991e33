use native.Mathlib.Omega.{arith}
use lib.Seq.{length-take-le}
use mathlib.Core.Path.{sym, ap, ◌∙◌}
use Rattle.laws.specs.Tests.{sames}
use Rattle.sheets.proofs.WritingLaws.{again, again-low}
use Rattle.sheets.proofs.ReadingLaws.{read-so, read_none}
use Rattle.sheets.proofs.read.Goals as goal

pub slice_bounds-again-end : goal.slice_bounds-again-end
slice_bounds-again-end c = again-low _ _ c.write-n.ensures

pub slice_bounds-same-end : goal.slice_bounds-same-end
slice_bounds-same-end c = sym (length-take-le _ _ (again-low _ _ c.write-n.ensures))

pub returns-then-same : goal.returns-then-same
returns-then-same c = let t = c.args.text.now in
    read-so t c.held_rows-rows.ensures
    (ap (λ l. sames l t) (sym (again c.held_rows-rows.result _ _ _ (omega arith)
    c.write-n.ensures)) ∙ sym c.same.ensures ∙ c.if-same.true)

pub returns-else-same : goal.returns-else-same
returns-else-same c = let t = c.args.text.now in
    read_none t c.held_rows-rows.ensures
    (ap (λ l. sames l t) (sym (again c.held_rows-rows.result _ _ _ (omega arith)
    c.write-n.ensures)) ∙ sym c.same.ensures ∙ c.if-same.false)
