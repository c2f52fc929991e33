use mathlib.Core.Path.{sym, ◌∙◌}
use borrow.Author.Tests.{eq-eqb, ne_eqb}
use Rattle.laws.specs.Tests.{pick}
use Rattle.octets.specs.Numbers.{number_at}
use Rattle.shown.specs.Image.{image_size}
use Rattle.shown.proofs.image.size.Goals as goal

pub returns-then-kind : goal.returns-then-kind
unfolding image_size Rattle.laws.specs.Tests.pick
returns-then-kind c = rw (
  c.count.ensures.0,
  eq-eqb (number_at 1 c.args.s.now 0) 160
      (sym c.get8-kind.ensures ∙ c.if-kind.true),
)

pub returns-then-kind-2 : goal.returns-then-kind-2
unfolding image_size Rattle.laws.specs.Tests.pick
returns-then-kind-2 c = rw (
  c.count-then-kind-2.ensures.0,
  ne_eqb (number_at 1 c.args.s.now 0) 160
      (λ e. c.if-kind.false (c.get8-kind.ensures ∙ e)),
  eq-eqb
      (number_at 1 c.args.s.now 0) 164
      (sym c.get8-kind.ensures ∙ c.if-kind-2.true),
)

pub returns-then-kind-3 : goal.returns-then-kind-3
unfolding image_size Rattle.laws.specs.Tests.pick
returns-then-kind-3 c = rw (
  c.count-then-kind-3.ensures.0,
  ne_eqb (number_at 1 c.args.s.now 0)
      160 (λ e. c.if-kind.false (c.get8-kind.ensures ∙ e)),
  ne_eqb
      (number_at 1 c.args.s.now 0) 164 (λ e. c.if-kind-2.false (c.get8-kind.ensures ∙ e)),
  eq-eqb
      (number_at 1 c.args.s.now 0) 161 (sym c.get8-kind.ensures ∙ c.if-kind-3.true),
)

pub returns-then-kind-4 : goal.returns-then-kind-4
unfolding image_size Rattle.laws.specs.Tests.pick
returns-then-kind-4 c = rw (
  c.count-then-kind-4.ensures.0,
  ne_eqb
      (number_at 1 c.args.s.now 0) 160 (λ e. c.if-kind.false (c.get8-kind.ensures ∙ e)),
  ne_eqb
      (number_at 1 c.args.s.now 0) 164 (λ e. c.if-kind-2.false (c.get8-kind.ensures ∙ e)),
  ne_eqb
      (number_at 1 c.args.s.now 0) 161 (λ e. c.if-kind-3.false (c.get8-kind.ensures ∙ e)),
  eq-eqb
      (number_at 1 c.args.s.now 0) 165 (sym c.get8-kind.ensures ∙ c.if-kind-4.true),
)

pub returns-then-kind-5 : goal.returns-then-kind-5
unfolding image_size Rattle.laws.specs.Tests.pick
returns-then-kind-5 c = rw (
  c.count-then-kind-5.ensures.0,
  ne_eqb
      (number_at 1 c.args.s.now 0) 160 (λ e. c.if-kind.false (c.get8-kind.ensures ∙ e)),
  ne_eqb
      (number_at 1 c.args.s.now 0) 164 (λ e. c.if-kind-2.false (c.get8-kind.ensures ∙ e)),
  ne_eqb
      (number_at 1 c.args.s.now 0) 161 (λ e. c.if-kind-3.false (c.get8-kind.ensures ∙ e)),
  ne_eqb
      (number_at 1 c.args.s.now 0) 165 (λ e. c.if-kind-4.false (c.get8-kind.ensures ∙ e)),
  eq-eqb
      (number_at 1 c.args.s.now 0) 163 (sym c.get8-kind.ensures ∙ c.if-kind-5.true),
)

pub returns : goal.returns
unfolding image_size Rattle.laws.specs.Tests.pick
returns c = rw (
  ne_eqb (number_at 1 c.args.s.now 0) 160
      (λ e. c.if-kind.false (c.get8-kind.ensures ∙ e)),
  ne_eqb
      (number_at 1 c.args.s.now 0) 164 (λ e. c.if-kind-2.false (c.get8-kind.ensures ∙ e)),
  ne_eqb
      (number_at 1 c.args.s.now 0) 161 (λ e. c.if-kind-3.false (c.get8-kind.ensures ∙ e)),
  ne_eqb
      (number_at 1 c.args.s.now 0) 165 (λ e. c.if-kind-4.false (c.get8-kind.ensures ∙ e)),
  ne_eqb
      (number_at 1 c.args.s.now 0) 163 (λ e. c.if-kind-5.false (c.get8-kind.ensures ∙ e)),
)
