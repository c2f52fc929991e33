-- Laws of the definitions in Edges.
use Rattle.std.specs.Prelude.{◌≡◌, refl, true}
use Rattle.model.specs.Types.{fresh}
use Rattle.model.specs.Engine.{models}
use Rattle.model.specs.InFull.{in_full}
use Rattle.model.specs.Rows.{all_right}
use Rattle.model.specs.Edges.{p2good, p2low, p3, p4sixty, p4image, p4minus, p4plus, p5, p6, p7, p8, read_prefix, forms, p9, p10, edges}

-- P1 to P10 hold of the definitions.
pub edges-hold : all_right models fresh in_full edges ≡ true
unfolding p2good p2low p3 p4sixty p4image p4minus p4plus p5 p6 p7 p8 read_prefix forms p9 p10 edges in_full
    Rattle.model.specs.Computed.computed
edges-hold = refl
