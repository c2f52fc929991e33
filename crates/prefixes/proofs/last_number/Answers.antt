use mathlib.Core.Path.{sym, ◌∙◌}
use Rattle.prefixes.specs.MoreLaws.{last-not, last_none, last-there}
use Rattle.prefixes.proofs.last_number.Goals as goal

pub returns-then-s-ne-SIZE : goal.returns-then-s-ne-SIZE
returns-then-s-ne-SIZE c = last-not c.args.s.now c.if-s-ne-SIZE.true

pub returns-then-count-eq0 : goal.returns-then-count-eq0
returns-then-count-eq0 c = last_none c.args.s.now c.if-s-ne-SIZE.false (sym c.count_of-count.ensures.0 ∙ c.if-count-eq0.true)

pub returns : goal.returns
returns c = last-there c.args.s.now _ c.if-s-ne-SIZE.false c.count_of-count.ensures.0
    c.if-count-eq0.false c.number_at.ensures
