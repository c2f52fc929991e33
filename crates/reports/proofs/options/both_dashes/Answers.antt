use mathlib.Core.Path.{sym, ap, ◌∙◌}
use Rattle.reports.specs.Options.{is_dash}
use mathlib.Core.Bool.{◌&&◌}
use Rattle.laws.specs.TestsLaws.{and-not-left}
use Rattle.reports.proofs.options.both_dashes.Goals as goal

pub returns-then-is_dash : goal.returns-then-is_dash
returns-then-is_dash c = c.is_dash-then-is_dash.ensures
    ∙ sym (ap (λ b. b && is_dash c.args.other.now)
    (sym c.is_dash.ensures ∙ c.if-is_dash.true))

pub returns : goal.returns
returns c = sym
    (and-not-left (is_dash c.args.one.now)
    (is_dash c.args.other.now) (sym c.is_dash.ensures ∙ c.if-is_dash.false))
