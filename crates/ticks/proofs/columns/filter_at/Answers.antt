use Rattle.ticks.specs.TableLaws.{filter-on, filter-off}
use Rattle.ticks.proofs.columns.filter_at.Goals as goal

pub returns-then-filter-eq1 : goal.returns-then-filter-eq1
returns-then-filter-eq1 c = let a = c.args in
    filter-on a.filter a.options a.filtering c.if-filter-eq1.true c.filtering_of.ensures

pub returns : goal.returns
returns c = let a = c.args in filter-off a.filter a.options a.filtering c.if-filter-eq1.false
