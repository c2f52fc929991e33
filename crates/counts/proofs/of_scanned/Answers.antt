use mathlib.Core.Path.{sym, ◌∙◌}
use Rattle.marks.proofs.FieldsLaws.{packet-framed}
use Rattle.steps.specs.TypedLaws.{scanned-has}
use Rattle.counts.specs.FramesLaws.{adds-scanned, adds-no-scanned}
use Rattle.totals.specs.GainsLaws.{no-gains-wide}
use Rattle.counts.proofs.of_scanned.Goals as goal

pub gains_of-requires : goal.gains_of-requires
gains_of-requires c = (
  c.requires,
  packet-framed _
      (scanned-has _ (sym c.scanned_form.ensures ∙ c.if-scanned_form.true)),
)

pub returns-then-scanned_form : goal.returns-then-scanned_form
returns-then-scanned_form c = let a = c.args in
    adds-scanned a.s.now a.payload.now (sym c.scanned_form.ensures ∙ c.if-scanned_form.true)
    c.gains_of.ensures

pub returns : goal.returns
returns c = let a = c.args in
    adds-no-scanned a.s.now a.payload.now
    (sym c.scanned_form.ensures ∙ c.if-scanned_form.false) (no-gains-wide c.no_gains.ensures)
