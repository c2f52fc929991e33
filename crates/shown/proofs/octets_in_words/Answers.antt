use mathlib.Core.Path.{sym, ap, ◌∙◌}
use Rattle.words.specs.SaysLaws.{taken, left}
use borrow.Author.Tests.{eq-eqb, ne_eqb}
use Rattle.octets.specs.Numbers.{number_at}
use Rattle.shown.specs.Image.{begins}
use Rattle.shown.specs.Line.{is_kind, line_text}
use Rattle.shown.proofs.octets_in_words.Goals as goal

pub returns-then-is_frame_kind : goal.returns-then-is_frame_kind
unfolding line_text
returns-then-is_frame_kind c = taken _ _
    (sym (c.is_frame_kind.ensures
    ∙ ap is_kind c.get8-kind.ensures) ∙ c.if-is_frame_kind.true)
    c.frame.ensures

pub returns-then-begins : goal.returns-then-begins
unfolding line_text
returns-then-begins c = left _ _ (sym (c.is_frame_kind.ensures ∙ ap is_kind c.get8-kind.ensures)
    ∙ c.if-is_frame_kind.false) (taken _ _
    (sym (c.begins.ensures ∙ ap begins c.get8-kind.ensures) ∙ c.if-begins.true)
    c.line.ensures)

pub returns-then-kind-eq-COMPLETE : goal.returns-then-kind-eq-COMPLETE
unfolding line_text
returns-then-kind-eq-COMPLETE c = left _ _ (sym (c.is_frame_kind.ensures ∙ ap is_kind c.get8-kind.ensures)
    ∙ c.if-is_frame_kind.false) (left _ _ (sym (c.begins.ensures ∙ ap begins c.get8-kind.ensures)
    ∙ c.if-begins.false) (taken _ _
    (eq-eqb (number_at 1 c.args.s.now 0) 14 (sym c.get8-kind.ensures ∙ c.if-kind-eq-COMPLETE.true))
    c.complete.ensures))

pub returns-then-kind : goal.returns-then-kind
unfolding line_text
returns-then-kind c = let s = c.args.s.now in
    let g = c.get8-kind.ensures in
    left _ _ (sym (c.is_frame_kind.ensures ∙ ap is_kind g) ∙ c.if-is_frame_kind.false)
    (left _ _ (sym (c.begins.ensures ∙ ap begins g) ∙ c.if-begins.false)
    (left _ _ (ne_eqb (number_at 1 s 0) 14 (λ e. c.if-kind-eq-COMPLETE.false (g ∙ e)))
    (taken _ _ (eq-eqb (number_at 1 s 0) 255 (sym g ∙ c.if-kind.true)) c.change.ensures)))

pub returns : goal.returns
unfolding line_text
returns c = let s = c.args.s.now in
    let g = c.get8-kind.ensures in
    left _ _ (sym (c.is_frame_kind.ensures ∙ ap is_kind g) ∙ c.if-is_frame_kind.false)
    (left _ _ (sym (c.begins.ensures ∙ ap begins g) ∙ c.if-begins.false)
    (left _ _ (ne_eqb (number_at 1 s 0) 14 (λ e. c.if-kind-eq-COMPLETE.false (g ∙ e)))
    (left _ _ (ne_eqb (number_at 1 s 0) 255 (λ e. c.if-kind.false (g ∙ e))) c.report.ensures)))
