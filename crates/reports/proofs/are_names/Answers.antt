use Rattle.reports.specs.ChoicesLaws.{names-dashes, names-not}
use mathlib.Core.Path.{sym, ◌∙◌}
use Rattle.reports.proofs.are_names.Goals as goal

pub returns-then-both_dashes : goal.returns-then-both_dashes
returns-then-both_dashes c = names-dashes c.args.image.now
    c.args.journal.now (sym c.both_dashes.ensures ∙ c.if-both_dashes.true)

pub returns : goal.returns
returns c = names-not c.args.image.now
    c.args.journal.now c.is_option.result
    (sym c.both_dashes.ensures ∙ c.if-both_dashes.false) c.is_option.ensures
