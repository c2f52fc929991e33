use mathlib.Core.Bool.{false≢true}
use mathlib.Core.Path.{refl, sym, ◌∙◌}
use native.Mathlib.Omega.{arith}
use Rattle.ticks.specs.CalmLaws.{still-bare, still_open, bare-last}
use Rattle.ticks.proofs.calm.count_up.Goals as goal

pub returns-then-windowed : goal.returns-then-windowed
returns-then-windowed c = (λ e. refl, λ e. absurd (false≢true e))

pub returns-then-wide-ticks : goal.returns-then-wide-ticks
returns-then-wide-ticks c = (
  λ e. absurd (false≢true (sym e)),
  λ e. still-bare c.args.period c.args.r.now c.requires.0 c.requires.1
      c.put16.ensures.0
      c.put16.ensures.1 (sym c.windowed.ensures ∙ c.if-windowed.false),
)

pub returns-then-period-ne-NO_REPORTS : goal.returns-then-period-ne-NO_REPORTS
returns-then-period-ne-NO_REPORTS c = (
  λ e. absurd (false≢true (sym e)),
  λ e. still_open c.args.period c.args.r.now c.requires.0 c.requires.1
      c.put16-2.ensures.0 c.put16-2.ensures.1 c.wide-ticks.ensures.0 (omega (
        arith,
        c.wide.ensures,
        c.if-wide-ticks.false,
      )) (omega (arith, c.if-period-ne-NO_REPORTS.true)),
)

pub returns-else-period-ne-NO_REPORTS : goal.returns-else-period-ne-NO_REPORTS
returns-else-period-ne-NO_REPORTS c = (
  λ e. absurd (false≢true (sym e)),
  λ e. still-bare c.args.period c.args.r.now c.requires.0 c.requires.1
      c.put16-2.ensures.0
      c.put16-2.ensures.1 (bare-last c.args.period (omega (arith, c.if-period-ne-NO_REPORTS.false))),
)
