use Rattle.reports.specs.FitsLaws.{warning-some, warning-none}
use Rattle.model.specs.Quoted.{codes}
use mathlib.Core.Path.{sym, ◌∙◌}
use Rattle.reports.proofs.warning.Goals as goal

pub returns-then-warns : goal.returns-then-warns
unfolding codes
returns-then-warns c = warning-some c.args.flow
    (sym c.warns.ensures ∙ c.if-warns.true)
    c.blank.ensures c.with.ensures

pub returns : goal.returns
unfolding codes
returns c = warning-none c.args.flow
    (sym c.warns.ensures ∙ c.if-warns.false) c.blank-2.ensures
