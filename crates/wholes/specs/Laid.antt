-- The block of a sound state, with the index of its pairs or with another, holds that state and is sound; and what a
-- sound block is: a sound core, behind it the index of its pairs, and behind that sound editions, with the prefix in
-- force at the position in the head. Document 02, T-02, T-12. Assumes nothing.
use Rattle.std.specs.Prelude.{ℕ, Bool, ◌&&◌, List, take, drop}
use Rattle.laws.specs.Tests.{sames}
use Rattle.model.specs.Block.{model_of}
use Rattle.model.specs.Layout.{prefix_length_at}
use Rattle.editions.specs.Editions.{prefix_for}
use Rattle.editions.specs.Block.{editions_of, sound_block}
use Rattle.wholes.specs.Layout.{editions_at}
use Rattle.wholes.specs.Heads.{prefix_size, prefix_row}

-- whether the editions of a block are sound and the head has the prefix in force at the position
unfoldable pub sound_prefixes : List ℕ → Bool
sound_prefixes s =
    sound_block (drop editions_at s)
    && sames (take prefix_size (drop prefix_length_at s))
    (prefix_row (prefix_for (model_of s).position (editions_of (drop editions_at s))))
