use mathlib.Core.Path.{sym, ap, ◌∙◌}
use Rattle.laws.specs.Tests.{pick}
use Rattle.shown.specs.Image.{begins}
use Rattle.shown.specs.Line.{is_kind, why_not}
use Rattle.shown.proofs.why_not.Goals as goal

pub returns-then-is_frame_kind : goal.returns-then-is_frame_kind
unfolding why_not Rattle.laws.specs.Tests.pick
returns-then-is_frame_kind c = rw (
  c.why_no_frame.ensures,
  sym
      (c.is_frame_kind.ensures ∙ ap is_kind c.get8-kind.ensures)
      ∙ c.if-is_frame_kind.true,
)

pub returns-then-begins : goal.returns-then-begins
unfolding why_not Rattle.laws.specs.Tests.pick
returns-then-begins c = rw (
  c.form.ensures,
  c.size.ensures,
  sym
      (c.is_frame_kind.ensures ∙ ap is_kind c.get8-kind.ensures) ∙ c.if-is_frame_kind.false,
  sym
      (c.begins.ensures ∙ ap begins c.get8-kind.ensures) ∙ c.if-begins.true,
)

pub returns-then-kind : goal.returns-then-kind
unfolding why_not Rattle.laws.specs.Tests.pick
returns-then-kind c = rw (
  c.form-then-kind.ensures,
  c.is_event.ensures,
  sym
      (c.is_frame_kind.ensures ∙ ap is_kind c.get8-kind.ensures) ∙ c.if-is_frame_kind.false,
  sym
      (c.begins.ensures ∙ ap begins c.get8-kind.ensures) ∙ c.if-begins.false,
  (rw c.get8-kind.ensures at c.if-kind.true),
)

pub returns : goal.returns
unfolding why_not Rattle.laws.specs.Tests.pick
returns c = rw (
  sym (c.is_frame_kind.ensures
      ∙ ap is_kind c.get8-kind.ensures)
      ∙ c.if-is_frame_kind.false,
  sym
      (c.begins.ensures ∙ ap begins c.get8-kind.ensures)
      ∙ c.if-begins.false,
  (rw c.get8-kind.ensures at c.if-kind.false),
)
