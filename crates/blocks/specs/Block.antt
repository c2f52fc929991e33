-- The block of a sound state: its length, what stands where, that it holds the state and is sound; and what a sound
-- block is. Document 01, The image ("every unused octet and place of the state 0"). Assumes nothing.
use Rattle.std.specs.Prelude.{◌≤◌, length}
use Rattle.rule.specs.Base.{All}
use Rattle.model.specs.Types.{Model}
use Rattle.blocks.specs.Bounds.{Fits}
use Rattle.blocks.specs.Monitors.{Short}
use Rattle.model.specs.Layout.{most_pairs, most_prefix}

-- What the parts of a block measure where its rows have room: less than soundness, and enough to say what stands where.
pub record Measured (m : Model) : Type 0 where
  pub prefix-most : length m.prefix ≤ most_prefix
  pub short : Short m.mons
  pub fit : All Fits m.pairs
  pub pairs-most : length m.pairs ≤ most_pairs
