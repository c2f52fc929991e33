use Rattle.reports.specs.ChoicesLaws.{option-numbered, option-progress, option-given, option-after, option-none}
use Rattle.model.specs.Quoted.{codes}
use mathlib.Core.Path.{sym, ◌∙◌}
use Rattle.reports.proofs.options.taken.Goals as goal

pub returns-then-same : goal.returns-then-same
unfolding codes
returns-then-same c = option-numbered c.args.asked c.args.word.now c.args.number.now
    (sym c.same.ensures ∙ c.if-same.true) c.with_numbers.ensures

pub returns-then-same-2 : goal.returns-then-same-2
unfolding codes
returns-then-same-2 c = option-progress c.args.asked c.args.word.now c.args.number.now
    (sym c.same.ensures ∙ c.if-same.false)
    (sym c.same-2.ensures ∙ c.if-same-2.true) c.with_progress.ensures

pub returns-then-asked : goal.returns-then-asked
unfolding codes
returns-then-asked c = option-given c.args.asked c.args.word.now c.args.number.now
    (sym c.same.ensures ∙ c.if-same.false)
    (sym c.same-2.ensures ∙ c.if-same-2.false) c.if-asked.true

pub returns-then-same-3 : goal.returns-then-same-3
unfolding codes
returns-then-same-3 c = option-after c.args.asked c.args.word.now c.args.number.now
    (sym c.same.ensures ∙ c.if-same.false) (sym c.same-2.ensures ∙ c.if-same-2.false)
    c.if-asked.false (sym c.same-3.ensures ∙ c.if-same-3.true) c.read.ensures
    c.with_after.ensures

pub returns : goal.returns
unfolding codes
returns c = option-none c.args.asked c.args.word.now c.args.number.now
    (sym c.same.ensures ∙ c.if-same.false) (sym c.same-2.ensures ∙ c.if-same-2.false)
    c.if-asked.false (sym c.same-3.ensures ∙ c.if-same-3.false)
