use mathlib.Core.Path.{sym, ◌∙◌}
use borrow.Author.Tests.{eq-eqb, ne_eqb}
use Rattle.laws.specs.Tests.{pick}
use Rattle.octets.specs.Numbers.{number_at}
use Rattle.shown.specs.Frames.{is_frame}
use Rattle.shown.proofs.framed.is_frame.Goals as goal

pub returns-then-kind-eq-COMMAND : goal.returns-then-kind-eq-COMMAND
unfolding is_frame Rattle.laws.specs.Tests.pick
returns-then-kind-eq-COMMAND c = rw (
  c.command_form.ensures,
  c.behind-payload.ensures,
  eq-eqb
      (number_at 1 c.args.s.now 0) 1
      (sym c.get8-kind.ensures ∙ c.if-kind-eq-COMMAND.true),
)

pub returns-then-kind-eq-PACKET : goal.returns-then-kind-eq-PACKET
unfolding is_frame Rattle.laws.specs.Tests.pick
returns-then-kind-eq-PACKET c = rw (
  c.packet_form.ensures,
  c.behind-payload.ensures,
  ne_eqb
      (number_at 1 c.args.s.now 0) 1 (λ e. c.if-kind-eq-COMMAND.false (c.get8-kind.ensures ∙ e)),
  eq-eqb
      (number_at 1 c.args.s.now 0) 2 (sym c.get8-kind.ensures ∙ c.if-kind-eq-PACKET.true),
)

pub returns-then-kind-eq-SCANNED : goal.returns-then-kind-eq-SCANNED
unfolding is_frame Rattle.laws.specs.Tests.pick
returns-then-kind-eq-SCANNED c = rw (
  c.scanned_form.ensures,
  c.behind-payload.ensures,
  ne_eqb
      (number_at 1 c.args.s.now 0) 1 (λ e. c.if-kind-eq-COMMAND.false (c.get8-kind.ensures ∙ e)),
  ne_eqb
      (number_at 1 c.args.s.now 0) 2 (λ e. c.if-kind-eq-PACKET.false (c.get8-kind.ensures ∙ e)),
  eq-eqb
      (number_at 1 c.args.s.now 0) 4 (sym c.get8-kind.ensures ∙ c.if-kind-eq-SCANNED.true),
)

pub returns : goal.returns
unfolding is_frame Rattle.laws.specs.Tests.pick
returns c = rw (
  c.behind-payload.ensures,
  ne_eqb
      (number_at 1 c.args.s.now 0) 1 (λ e. c.if-kind-eq-COMMAND.false (c.get8-kind.ensures ∙ e)),
  ne_eqb
      (number_at 1 c.args.s.now 0) 2 (λ e. c.if-kind-eq-PACKET.false (c.get8-kind.ensures ∙ e)),
  ne_eqb
      (number_at 1 c.args.s.now 0) 4 (λ e. c.if-kind-eq-SCANNED.false (c.get8-kind.ensures ∙ e)),
)
