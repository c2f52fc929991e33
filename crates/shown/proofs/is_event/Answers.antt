use mathlib.Core.Path.{sym, ◌∙◌}
use borrow.Author.Tests.{eq-eqb, ne_eqb}
use Rattle.laws.specs.Tests.{pick}
use Rattle.octets.specs.Numbers.{number_at}
use Rattle.shown.specs.Line.{is_event}
use Rattle.shown.proofs.is_event.Goals as goal

pub returns-then-kind-eq-COMPLETE : goal.returns-then-kind-eq-COMPLETE
unfolding is_event Rattle.laws.specs.Tests.pick
returns-then-kind-eq-COMPLETE c = rw (
  c.is_complete.ensures,
  eq-eqb (number_at 1 c.args.s.now 0) 14
      (sym c.get8-kind.ensures ∙ c.if-kind-eq-COMPLETE.true),
)

pub returns-then-kind : goal.returns-then-kind
unfolding is_event Rattle.laws.specs.Tests.pick
returns-then-kind c = rw (
  c.is_change.ensures,
  ne_eqb (number_at 1 c.args.s.now 0) 14
      (λ e. c.if-kind-eq-COMPLETE.false (c.get8-kind.ensures ∙ e)),
  eq-eqb
      (number_at 1 c.args.s.now 0) 255
      (sym c.get8-kind.ensures ∙ c.if-kind.true),
)

pub returns : goal.returns
unfolding is_event Rattle.laws.specs.Tests.pick
returns c = rw (
  c.is_report.ensures,
  ne_eqb (number_at 1 c.args.s.now 0) 14
      (λ e. c.if-kind-eq-COMPLETE.false (c.get8-kind.ensures ∙ e)),
  ne_eqb
      (number_at 1 c.args.s.now 0) 255
      (λ e. c.if-kind.false (c.get8-kind.ensures ∙ e)),
)
