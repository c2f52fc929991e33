use mathlib.Core.Path.{sym, ◌∙◌}
use Rattle.marks.proofs.FieldsLaws.{packet-framed}
use Rattle.steps.specs.TypedLaws.{packet-has}
use Rattle.counts.specs.FramesLaws.{adds-packet, adds-no-packet}
use Rattle.totals.specs.GainsLaws.{no-gains-wide}
use Rattle.counts.proofs.of_packet.Goals as goal

pub gains_of-requires : goal.gains_of-requires
gains_of-requires c = (
  c.requires,
  packet-framed _
      (packet-has _ (sym c.packet_form.ensures ∙ c.if-packet_form.true)),
)

pub returns-then-packet_form : goal.returns-then-packet_form
returns-then-packet_form c = let a = c.args in
    adds-packet a.s.now a.payload.now (sym c.packet_form.ensures ∙ c.if-packet_form.true)
    c.gains_of.ensures

pub returns : goal.returns
returns c = let a = c.args in
    adds-no-packet a.s.now a.payload.now (sym c.packet_form.ensures ∙ c.if-packet_form.false)
    (no-gains-wide c.no_gains.ensures)
