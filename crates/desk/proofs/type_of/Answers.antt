use Rattle.desk.specs.WrittenLaws.{type-public, type-random, type-other}
use Rattle.model.specs.Quoted.{codes}
use mathlib.Core.Path.{sym, ◌∙◌}
use Rattle.desk.proofs.type_of.Goals as goal

pub returns-then-same : goal.returns-then-same
unfolding codes
returns-then-same c = type-public c.args.word.now
    (sym c.same.ensures ∙ c.if-same.true)

pub returns-then-same-2 : goal.returns-then-same-2
unfolding codes
returns-then-same-2 c = type-random c.args.word.now (sym c.same.ensures ∙ c.if-same.false)
    (sym c.same-2.ensures ∙ c.if-same-2.true)

pub returns : goal.returns
unfolding codes
returns c = type-other c.args.word.now (sym c.same.ensures ∙ c.if-same.false)
    (sym c.same-2.ensures ∙ c.if-same-2.false)
