-- The block of a state, part by part: what other crates know of how it is laid out. `padded` is opened in this crate
-- alone. Document 01, The image. Assumes nothing.
use Rattle.std.specs.Prelude.{◌≡◌, refl, List, [], ◌∷◌, ◌++◌, length, take, replicate}
use Rattle.std.proofs.Common.{take_at}
use Rattle.laws.specs.Loops.{up_to}
use Rattle.laws.specs.Rows.{flat}
use Rattle.model.specs.Types.{Model, with_lists}
use Rattle.model.specs.Image.{head_row}
use Rattle.model.specs.Block.{pad_to, monitor_place, monitor_block, pair_block, padded}
use Rattle.model.specs.Layout.{head_size, body_size}
use Rattle.blocks.specs.Block.{Measured}
use Rattle.blocks.specs.BlockLaws.{tables, length-head}

-- the head, the monitors' rows, the pairs' rows, the number of pairs
pub padded-parts : (m : Model)
    → padded m ≡ pad_to head_size (head_row m)
    ++ (monitor_block m.mons ++ (pair_block m.pairs ++ (length m.pairs ∷ [])))
unfolding padded
padded-parts m = refl

-- the head of a block
pub take_head : (m : Model) → Measured m → take head_size (padded m) ≡ pad_to head_size (head_row m)
unfolding padded
take_head m f = take_at (pad_to head_size (head_row m)) (tables m) head_size (length-head m f.prefix-most)

-- a state with no monitors and no pairs: its head, and zeros
pub empty-padded : (m : Model) → padded (with_lists m [] []) ≡ pad_to head_size (head_row m) ++ replicate body_size 0
unfolding padded with_lists head_row monitor_block monitor_place
    pair_block up_to flat
empty-padded m = refl
