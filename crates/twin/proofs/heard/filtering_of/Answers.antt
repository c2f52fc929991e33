use Rattle.twin.specs.FiltersLaws.{filtering-first, filtering-long, filtering-second}
use Rattle.twin.proofs.heard.filtering_of.Goals as goal

pub returns-then-type_at-eq5 : goal.returns-then-type_at-eq5
returns-then-type_at-eq5 c = filtering-first c.args.params.now _ c.type_at.ensures
    c.if-type_at-eq5.true

pub bounds-params-6 : goal.bounds-params-6
bounds-params-6 c = filtering-long c.args.params.now _
    c.requires c.type_at.ensures c.if-type_at-eq5.false

pub returns : goal.returns
returns c = filtering-second c.args.params.now _
    c.type_at.ensures c.if-type_at-eq5.false
