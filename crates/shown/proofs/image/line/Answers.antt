use mathlib.Core.Path.{sym, ◌∙◌}
use Rattle.words.specs.SaysLaws.{taken, left}
use borrow.Author.Tests.{eq-eqb, ne_eqb}
use Rattle.octets.specs.Numbers.{number_at}
use Rattle.shown.specs.Image.{image_text}
use Rattle.shown.proofs.image.line.Goals as goal

pub returns-then-kind : goal.returns-then-kind
unfolding image_text
returns-then-kind c = taken _ _
    (eq-eqb (number_at 1 c.args.s.now 0) 160
    (sym c.get8-kind.ensures ∙ c.if-kind.true)) c.head.ensures

pub returns-then-kind-2 : goal.returns-then-kind-2
unfolding image_text
returns-then-kind-2 c = left _ _ (ne_eqb (number_at 1 c.args.s.now 0) 160 (λ e. c.if-kind.false (c.get8-kind.ensures ∙ e)))
    (taken _ _ (eq-eqb (number_at 1 c.args.s.now 0) 164
    (sym c.get8-kind.ensures ∙ c.if-kind-2.true)) c.edition.ensures)

pub returns-then-kind-3 : goal.returns-then-kind-3
unfolding image_text
returns-then-kind-3 c = left _ _ (ne_eqb (number_at 1 c.args.s.now 0) 160 (λ e. c.if-kind.false (c.get8-kind.ensures ∙ e)))
    (left _ _ (ne_eqb (number_at 1 c.args.s.now 0) 164 (λ e. c.if-kind-2.false (c.get8-kind.ensures ∙ e)))
    (taken _ _ (eq-eqb (number_at 1 c.args.s.now 0) 163
    (sym c.get8-kind.ensures ∙ c.if-kind-3.true)) c.pair.ensures))

pub returns-then-kind-4 : goal.returns-then-kind-4
unfolding image_text
returns-then-kind-4 c = left _ _ (ne_eqb (number_at 1 c.args.s.now 0) 160 (λ e. c.if-kind.false (c.get8-kind.ensures ∙ e)))
    (left _ _ (ne_eqb (number_at 1 c.args.s.now 0) 164 (λ e. c.if-kind-2.false (c.get8-kind.ensures ∙ e)))
    (left _ _ (ne_eqb (number_at 1 c.args.s.now 0) 163 (λ e. c.if-kind-3.false (c.get8-kind.ensures ∙ e)))
    (taken _ _ (eq-eqb (number_at 1 c.args.s.now 0) 175
    (sym c.get8-kind.ensures ∙ c.if-kind-4.true)) c.end.ensures)))

pub returns : goal.returns
unfolding image_text
returns c = left _ _ (ne_eqb (number_at 1 c.args.s.now 0) 160 (λ e. c.if-kind.false (c.get8-kind.ensures ∙ e)))
    (left _ _ (ne_eqb (number_at 1 c.args.s.now 0) 164 (λ e. c.if-kind-2.false (c.get8-kind.ensures ∙ e)))
    (left _ _ (ne_eqb (number_at 1 c.args.s.now 0) 163 (λ e. c.if-kind-3.false (c.get8-kind.ensures ∙ e)))
    (left _ _ (ne_eqb (number_at 1 c.args.s.now 0) 175
    (λ e. c.if-kind-4.false (c.get8-kind.ensures ∙ e))) c.monitor.ensures)))
