use Rattle.twin.specs.FiltersLaws.{added-adds, allows-read}
use Rattle.twin.proofs.pairs.allows.Goals as goal

pub filtering_of-requires : goal.filtering_of-requires
filtering_of-requires c = added-adds c.args.t.now c.args.a _ c.requires.0
    c.params_of.ensures

pub returns : goal.returns
returns c = allows-read c.args.t.now
    c.args.a c.args.q _ _
    c.params_of.ensures c.filtering_of.ensures
    c.event_of.ensures c.lets_through.ensures
