use mathlib.Core.Path.{sym, ◌∙◌}
use Rattle.words.specs.SaysLaws.{then, taken, left}
use Rattle.model.specs.Quoted.{codes}
use borrow.Author.Tests.{eq-eqb, ne_eqb}
use Rattle.octets.specs.Numbers.{number_at}
use Rattle.shown.specs.Frames.{frame_text}
use Rattle.shown.proofs.framed.frame.Goals as goal

pub returns-then-kind-eq-COMMAND : goal.returns-then-kind-eq-COMMAND
unfolding frame_text codes
returns-then-kind-eq-COMMAND c = taken _ _ (eq-eqb (number_at 1 c.args.s.now 0) 1 (sym c.get8-kind.ensures ∙ c.if-kind-eq-COMMAND.true))
    (then c.long-a.ensures (rw c.behind-payload.ensures at c.command.ensures))

pub returns-then-kind-eq-PACKET : goal.returns-then-kind-eq-PACKET
unfolding frame_text codes
returns-then-kind-eq-PACKET c = left _ _ (ne_eqb (number_at 1 c.args.s.now 0) 1 (λ e. c.if-kind-eq-COMMAND.false (c.get8-kind.ensures ∙ e)))
    (taken _ _ (eq-eqb (number_at 1 c.args.s.now 0) 2 (sym c.get8-kind.ensures ∙ c.if-kind-eq-PACKET.true))
    (then c.long-a-then-kind-eq-PACKET.ensures (rw c.behind-payload.ensures at c.packet.ensures)))

pub returns-then-kind-eq-SCANNED : goal.returns-then-kind-eq-SCANNED
unfolding frame_text codes
returns-then-kind-eq-SCANNED c = left _ _ (ne_eqb (number_at 1 c.args.s.now 0) 1 (λ e. c.if-kind-eq-COMMAND.false (c.get8-kind.ensures ∙ e)))
    (left _ _ (ne_eqb (number_at 1 c.args.s.now 0) 2 (λ e. c.if-kind-eq-PACKET.false (c.get8-kind.ensures ∙ e)))
    (taken _ _ (eq-eqb (number_at 1 c.args.s.now 0) 4 (sym c.get8-kind.ensures ∙ c.if-kind-eq-SCANNED.true))
    (then c.long-a-then-kind-eq-SCANNED.ensures (rw c.behind-payload.ensures at c.scanned.ensures))))

pub returns : goal.returns
unfolding frame_text codes
returns c = left _ _ (ne_eqb (number_at 1 c.args.s.now 0) 1 (λ e. c.if-kind-eq-COMMAND.false (c.get8-kind.ensures ∙ e)))
    (left _ _ (ne_eqb (number_at 1 c.args.s.now 0) 2 (λ e. c.if-kind-eq-PACKET.false (c.get8-kind.ensures ∙ e)))
    (left _ _ (ne_eqb (number_at 1 c.args.s.now 0) 4 (λ e. c.if-kind-eq-SCANNED.false (c.get8-kind.ensures ∙ e)))
    c.long.ensures))
