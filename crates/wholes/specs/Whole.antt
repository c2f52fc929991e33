-- The whole block of a state, and when a block is sound. Document 02, T-02: "A sound state has that index. It is not
-- in the image."; T-12: the editions of the prefix stand behind the index.
use Rattle.std.specs.Prelude.{ℕ, Bool, ◌&&◌, List, ◌++◌, drop}
use Rattle.laws.specs.Tests.{sames}
use Rattle.model.specs.Block.{model_of, padded}
use Rattle.editions.specs.Editions.{Gateway, sound_gateway}
use Rattle.editions.specs.Block.{edition_block, editions_of}
use Rattle.wholes.specs.Layout.{editions_at}
use Rattle.wholes.specs.Index.{index_block}

-- the state that a block holds, whatever its octets
unfoldable pub held_whole : List ℕ → Gateway
held_whole s = record { core = model_of s; editions = editions_of (drop editions_at s) }

-- the core, an index x, the editions
unfoldable pub laid_with : List ℕ → Gateway → List ℕ
laid_with x g = (padded g.core ++ x) ++ edition_block g.editions

-- the whole block: with the index of the pairs held
unfoldable pub whole : Gateway → List ℕ
whole g = laid_with (index_block g.core.pairs) g

-- a block is sound where the state that it holds is, and it is that state's whole block
unfoldable pub sound_with : List ℕ → List ℕ → Bool
sound_with x s = sound_gateway (held_whole s) && sames (laid_with x (held_whole s)) s

unfoldable pub sound_whole : List ℕ → Bool
sound_whole s = sound_with (index_block (model_of s).pairs) s
