use Rattle.twin.specs.FiltersLaws.{added-adds, sifting-read}
use Rattle.twin.proofs.pairs.is_sifting.Goals as goal

pub filtering_of-requires : goal.filtering_of-requires
filtering_of-requires c = added-adds c.args.t.now c.args.a _ c.requires
    c.params_of.ensures

pub returns : goal.returns
returns c = sifting-read c.args.t.now c.args.a _ _
    c.params_of.ensures c.filtering_of.ensures
